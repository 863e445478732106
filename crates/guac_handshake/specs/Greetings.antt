-- What a greeting read, asked and wrote, and why it ended (this project's own).
use Rattle.std.specs.Prelude.{◌≡◌, ℕ, ◌+◌, List, [], ◌∷◌, ◌++◌, Option, Some, None, IfSome, IfErr, IfOk, Result, Ok, Err, is_some, bytes_eq, codes, if◌then◌else◌, Bool}
use Rattle.std.specs.Option.{option_map}
use Rattle.gate_model.specs.text.HelloMeaning.{Greeting, Selects, HasSize, Connects, SaysOther, greeting_of}
use Rattle.gate_outside.specs.Edge.{AtEnd, GainedFront, came, gained}
use Rattle.guac_framing.specs.Found.{IsUnfinished, IsBadAt}
use Rattle.guac_framing.specs.declared.next.BadAt.{BadAt}
use Rattle.guac_handshake.specs.declared.greeted.Greeted.{Greeted}
use Rattle.guac_handshake.specs.declared.greeted.Greeted.TheVariants as greeted
use Rattle.guac_handshake.specs.declared.refused.Refused.{Refused}
use Rattle.guac_handshake.specs.declared.request.Request.{Request}
use Rattle.guac_handshake.specs.declared.request.Selected.{Selected}
use Rattle.guac_handshake.specs.declared.stop.Stop.{Stop}
use Rattle.guac_handshake.specs.declared.stop.Stop.TheVariants as stop
use Rattle.guac_handshake.specs.declared.welcome.Welcome.{Welcome}
use Rattle.guac_handshake.specs.Asks.{ReadsNoFurther, Wish, Unfinished, Wants, Refuses, asks, asks_behind, selected, selected_by}
use Rattle.gate_outside.specs.Helpers.{CountsFaults}
use Rattle.id_table.specs.Maps.{Same, Told}
use Rattle.guac_handshake.specs.Doors.{IsBusy, IsDial, KeepsIds, PlacesIn, Sessions, TouchesOne, asked_more, at_name, logged, logged_for, one_more_out, option_less}
use Rattle.guac_handshake.specs.Views.{DoorView, MayRefuse, Names}
use Rattle.guac_handshake.specs.Splits.{Splits}
use Rattle.gate_model.specs.text.Statuses.{bad_request, not_found}
use Rattle.guac_handshake.specs.Statuses.{status_of}
use Rattle.guac_handshake.specs.Texts.{args_for, error_text, ready_text}

-- the bytes begin no instruction
abbrev pub IsBroken : List ℕ → Type 0
IsBroken rest = (at : BadAt) × IsBadAt rest at

-- the instructions are out of form or ask for what isn't there, or a byte begins no instruction
pub data RefusedEarly (wish : Wish) (rest : List ℕ) (status : ℕ) : Type 0 where
  OutOfForm : wish ≡ Refuses status → RefusedEarly wish rest status
  Broken : wish ≡ Unfinished → status ≡ bad_request → IsBroken rest → RefusedEarly wish rest status

-- the wish of the instructions that were read, or why it is unfinished
abbrev pub Answers : Wish → List ℕ → Option (List ℕ) → Result Request Stop → Type 0
Answers wish rest left (Ok request) = wish ≡ Wants request
Answers wish rest left (Err (stop.Refused status)) = RefusedEarly wish rest status
Answers wish rest left (Err stop.Ended) = (wish ≡ Unfinished) × IsUnfinished rest × AtEnd left
Answers wish rest left (Err stop.ReadFault) = wish ≡ Unfinished
Answers wish rest left (Err stop.WriteFault) = wish ≡ Unfinished
Answers wish rest left (Err stop.NoMemory) = wish ≡ Unfinished

-- what was read behind `select`
pub record HasConnected (chosen : Selected) (left_old left_new : Option (List ℕ)) (unread rest : List ℕ) (result : Result Request Stop) : Type 0 where
  pub bytes : List ℕ
  pub instructions : List (List (List ℕ))
  pub came_is : left_old ≡ came bytes left_new
  pub split : Splits (unread ++ bytes) instructions rest
  pub no_further : ReadsNoFurther (asks_behind chosen) instructions
  pub answers : Answers (asks_behind chosen instructions) rest left_new result

-- the name at which a door is looked at
abbrev pub name_looked_at : Greeting → Option (List ℕ)
name_looked_at (Selects name) = if bytes_eq name (codes "telnet") then None else Some name
name_looked_at (HasSize width height) = None
name_looked_at Connects = None
name_looked_at SaysOther = None

abbrev pub looked_at : List (List (List ℕ)) → Option (List ℕ)
looked_at [] = None
looked_at (first ∷ others) = name_looked_at (greeting_of first)

-- whether the door has the ID that the first instruction selects, where it tells its IDs
abbrev pub IsLook : (List ℕ → Option (List ℕ)) → Option Sessions → Bool → List (List (List ℕ)) → Type 0
IsLook id_of sessions known instructions = IfSome sessions (λ m. IfSome (looked_at instructions) (λ name. known ≡ is_some (at_name (id_of name) m)))

-- what the first instruction selects; or nothing known, and the wish or why it is unfinished
abbrev pub Chose : Bool → List (List (List ℕ)) → List ℕ → Option (List ℕ) → Result Selected Stop → Type 0
Chose known instructions rest left (Ok chosen) = (first : List (List ℕ)) × (instructions ≡ first ∷ []) × (selected known instructions ≡ Some chosen)
Chose known instructions rest left (Err stop) = (selected known instructions ≡ None) × Answers (asks known instructions) rest left (Err stop)

-- what was read through `select`
pub record HasSelected (id_of : List ℕ → Option (List ℕ)) (sessions : Option Sessions) (left_old left_new : Option (List ℕ)) (unread rest : List ℕ) (result : Result Selected Stop) : Type 0 where
  pub bytes : List ℕ
  pub instructions : List (List (List ℕ))
  pub known : Bool
  pub came_is : left_old ≡ came bytes left_new
  pub split : Splits (unread ++ bytes) instructions rest
  pub no_further : ReadsNoFurther (asks known) instructions
  pub looked : IsLook id_of sessions known instructions
  pub chose : Chose known instructions rest left_new result

-- whether the door has the ID of a name, and what is selected by that name, or that it is unknown
abbrev pub found_as : Option Selected → Result Selected Stop
found_as (Some chosen) = Ok chosen
found_as None = Err (stop.Refused not_found)

pub record IsFound (id_of : List ℕ → Option (List ℕ)) (sessions : Option Sessions) (name : List ℕ) (result : Result Selected Stop) : Type 0 where
  pub known : Bool
  pub looked : IfSome sessions (λ m. IfSome (name_looked_at (Selects name)) (λ n. known ≡ is_some (at_name (id_of n) m)))
  pub found : result ≡ found_as (selected_by known name)

-- the parameters were written, or a front of them
abbrev pub WroteArgs : List ℕ → Option (List ℕ) → Option (List ℕ) → Result Request Stop → Type 0
WroteArgs args before now (Ok request) = now ≡ gained before args
WroteArgs args before now (Err (stop.Refused status)) = now ≡ gained before args
WroteArgs args before now (Err stop.Ended) = now ≡ gained before args
WroteArgs args before now (Err stop.ReadFault) = now ≡ gained before args
WroteArgs args before now (Err stop.WriteFault) = GainedFront before now args
WroteArgs args before now (Err stop.NoMemory) = GainedFront before now args

-- what was read through `connect`, and written meanwhile
pub record HasAsked (id_of : List ℕ → Option (List ℕ)) (sessions : Option Sessions) (left_old left_new written_old written_new : Option (List ℕ)) (unread rest : List ℕ) (result : Result Request Stop) : Type 0 where
  pub bytes : List ℕ
  pub instructions : List (List (List ℕ))
  pub known : Bool
  pub came_is : left_old ≡ came bytes left_new
  pub split : Splits (unread ++ bytes) instructions rest
  pub no_further : ReadsNoFurther (asks known) instructions
  pub looked : IsLook id_of sessions known instructions
  pub answers : Answers (asks known instructions) rest left_new result
  pub wrote : WroteArgs (args_for (selected known instructions)) written_old written_new result

-- the whole answer that is due to a client: none while what it asks is open, an error where that is refused early, and for
-- a request the error of a refusal that the door may give, or `ready` with an ID that names what was asked
pub data IsReplyTo (May : Request → Refused → Type 0) (Named : Request → List ℕ → Type 0) (wish : Wish) (rest text : List ℕ) : Type 0 where
  NoReply : wish ≡ Unfinished → text ≡ [] → IsReplyTo May Named wish rest text
  EarlyReply : (status : ℕ) → RefusedEarly wish rest status → text ≡ error_text status → IsReplyTo May Named wish rest text
  RefusalReply : (request : Request) (refusal : Refused) → wish ≡ Wants request → May request refusal → text ≡ error_text (status_of refusal) → IsReplyTo May Named wish rest text
  ReadyReply : (request : Request) (id : List ℕ) → wish ≡ Wants request → Named request id → text ≡ ready_text id → IsReplyTo May Named wish rest text

-- a door was asked this once, or not at all
pub data AskedAtMost (before now : Option (List Request)) (request : Request) : Type 0 where
  NotAsked : now ≡ before → AskedAtMost before now request
  AskedOnce : now ≡ asked_more before request → AskedAtMost before now request

-- a door's answer to a request, refused only as it may, was told to the client, or a write failed, or memory was wanting
abbrev pub IsServed : {P : Type 0} → (Request → Refused → Type 0) → (Request → List ℕ → Type 0) → (Request → Welcome P → Type 0) → Request → Option (List ℕ) → Option (List ℕ) → Option (List Request) → Option (List Request) → Greeted P → Type 0
IsServed May Named Gives request before now asked_before asked_now (greeted.Ready welcome) = (now ≡ gained before (ready_text welcome.id)) × (asked_now ≡ asked_more asked_before request) × Named request welcome.id × Gives request welcome
IsServed May Named Gives request before now asked_before asked_now (greeted.Refused status) = (refusal : Refused) × May request refusal × (status ≡ status_of refusal) × (now ≡ gained before (error_text status)) × (asked_now ≡ logged_for asked_before request refusal)
IsServed May Named Gives request before now asked_before asked_now greeted.Ended = ⊥
IsServed May Named Gives request before now asked_before asked_now greeted.ReadFault = ⊥
IsServed May Named Gives request before now asked_before asked_now greeted.WriteFault = (text : List ℕ) × IsReplyTo May Named (Wants request) [] text × GainedFront before now text × AskedAtMost asked_before asked_now request
IsServed May Named Gives request before now asked_before asked_now greeted.NoMemory = (text : List ℕ) × IsReplyTo May Named (Wants request) [] text × GainedFront before now text × AskedAtMost asked_before asked_now request

-- the places that are out: one more where the client was told its own
abbrev pub HasOut : {P : Type 0} → Option ℕ → Option ℕ → Greeted P → Type 0
HasOut before now (greeted.Ready welcome) = now ≡ option_map (λ n. n + 1) before
HasOut before now (greeted.Refused status) = now ≡ before
HasOut before now greeted.Ended = now ≡ before
HasOut before now greeted.ReadFault = now ≡ before
HasOut before now greeted.WriteFault = now ≡ before
HasOut before now greeted.NoMemory = now ≡ before

-- the sessions that a door's answer to a request touched: that of the welcome where there is one; refused, none is there
-- that wasn't
abbrev pub HasAnswered : {P : Type 0} → (List ℕ → Option (List ℕ)) → Request → Result (Welcome P) Refused → Sessions → Sessions → Type 0
HasAnswered id_of request (Ok welcome) m n = PlacesIn request (id_of welcome.id) m n
HasAnswered id_of request (Err refusal) m n = (name : Option (List ℕ)) × KeepsIds name m n

-- the sessions that a greeting touched: one at most, that of the welcome where the client was told of it; so a place of
-- which it couldn't be told went back to the session that gave it. Where what it asks is out of form the door wasn't asked
abbrev pub HasTouched : {P : Type 0} → (List ℕ → Option (List ℕ)) → Greeted P → Sessions → Sessions → Type 0
HasTouched id_of (greeted.Ready welcome) m n = TouchesOne (id_of welcome.id) m n
HasTouched id_of (greeted.Refused status) m n = ((name : Option (List ℕ)) × KeepsIds name m n) × (status ≡ bad_request → Same m n)
HasTouched id_of greeted.Ended m n = Same m n
HasTouched id_of greeted.ReadFault m n = Same m n
HasTouched id_of greeted.WriteFault m n = (name : Option (List ℕ)) × TouchesOne name m n
HasTouched id_of greeted.NoMemory m n = (name : Option (List ℕ)) × TouchesOne name m n

-- what a greeting touches of a door: its places that are out, and its sessions
pub record Touches {P : Type 0} (id_of : List ℕ → Option (List ℕ)) (result : Greeted P) (before after : DoorView) : Type 0 where
  pub out : HasOut before.out after.out result
  pub sessions : Told before.sessions after.sessions (HasTouched id_of result)

-- a door's answer to a request, and what it touched
pub record IsAnswered {P : Type 0} (id_of : List ℕ → Option (List ℕ)) (request : Request) (result : Result (Welcome P) Refused) (before after : DoorView) : Type 0 where
  pub kind : IfErr result (MayRefuse id_of before after request)
  pub named : IfOk result (λ welcome. Names id_of before after request welcome.id)
  pub sessions : Told before.sessions after.sessions (HasAnswered id_of request result)
  pub out : after.out ≡ one_more_out result before.out
  pub asked : after.asked ≡ logged before.asked request result
  pub helper : CountsFaults (IsDial result) (IsBusy result) before.helper after.helper

-- an end of a greeting that stopped
abbrev pub stopped_as : {P : Type 0} → Stop → Greeted P
stopped_as (stop.Refused status) = greeted.Refused status
stopped_as stop.Ended = greeted.Ended
stopped_as stop.ReadFault = greeted.ReadFault
stopped_as stop.WriteFault = greeted.WriteFault
stopped_as stop.NoMemory = greeted.NoMemory

-- the client was told of this welcome, or a front of that was written
abbrev pub IsToldReady : {P : Type 0} → Welcome P → Option (List ℕ) → Option (List ℕ) → Greeted P → Type 0
IsToldReady told before now (greeted.Ready welcome) = (welcome ≡ told) × (now ≡ gained before (ready_text welcome.id))
IsToldReady told before now (greeted.Refused status) = ⊥
IsToldReady told before now greeted.Ended = ⊥
IsToldReady told before now greeted.ReadFault = ⊥
IsToldReady told before now greeted.WriteFault = GainedFront before now (ready_text told.id)
IsToldReady told before now greeted.NoMemory = GainedFront before now (ready_text told.id)

-- the client was told of this status, or a front of that was written
abbrev pub IsToldError : {P : Type 0} → ℕ → Option (List ℕ) → Option (List ℕ) → Greeted P → Type 0
IsToldError told before now (greeted.Ready welcome) = ⊥
IsToldError told before now (greeted.Refused status) = (status ≡ told) × (now ≡ gained before (error_text status))
IsToldError told before now greeted.Ended = ⊥
IsToldError told before now greeted.ReadFault = ⊥
IsToldError told before now greeted.WriteFault = GainedFront before now (error_text told)
IsToldError told before now greeted.NoMemory = GainedFront before now (error_text told)

-- a place stays out where the client was told of it, and else goes back
abbrev pub StaysOut : {P : Type 0} → Option ℕ → Option ℕ → Greeted P → Type 0
StaysOut before now (greeted.Ready welcome) = now ≡ before
StaysOut before now (greeted.Refused status) = now ≡ option_less before
StaysOut before now greeted.Ended = now ≡ option_less before
StaysOut before now greeted.ReadFault = now ≡ option_less before
StaysOut before now greeted.WriteFault = now ≡ option_less before
StaysOut before now greeted.NoMemory = now ≡ option_less before

-- a door whose place in the session of this ID was told to the client, or came back
pub record HasKept {P : Type 0} (id : Option (List ℕ)) (result : Greeted P) (before after : DoorView) : Type 0 where
  pub sessions : Told before.sessions after.sessions (KeepsIds id)
  pub out : StaysOut before.out after.out result
  pub asked : after.asked ≡ before.asked
  pub helper : after.helper ≡ before.helper

-- a fact of the end at which the client was told of its session
abbrev pub OnReady : {P : Type 0} → Greeted P → Type 0 → Type 0
OnReady (greeted.Ready welcome) F = F
OnReady (greeted.Refused status) F = Unit {0}
OnReady greeted.Ended F = Unit {0}
OnReady greeted.ReadFault F = Unit {0}
OnReady greeted.WriteFault F = Unit {0}
OnReady greeted.NoMemory F = Unit {0}

-- a fact of the welcome
abbrev pub IfReady : {P : Type 0} → Greeted P → (P → List ℕ → Type 0) → Type 0
IfReady (greeted.Ready welcome) F = F welcome.place welcome.first
IfReady (greeted.Refused status) F = Unit {0}
IfReady greeted.Ended F = Unit {0}
IfReady greeted.ReadFault F = Unit {0}
IfReady greeted.WriteFault F = Unit {0}
IfReady greeted.NoMemory F = Unit {0}

-- why a client is refused, and whether the door was asked; the door refuses only as it may
pub data RefusedFor (May : Request → Refused → Type 0) (wish : Wish) (rest : List ℕ) (status : ℕ) (asked_before asked_now : Option (List Request)) : Type 0 where
  ByForm : RefusedEarly wish rest status → asked_now ≡ asked_before → RefusedFor May wish rest status asked_before asked_now
  ByDoor : (request : Request) (refusal : Refused) → wish ≡ Wants request → May request refusal → status ≡ status_of refusal → asked_now ≡ logged_for asked_before request refusal → RefusedFor May wish rest status asked_before asked_now

-- the door was asked what is wished, or not at all
pub data AskedAsWished (wish : Wish) (asked_before asked_now : Option (List Request)) : Type 0 where
  Unasked : asked_now ≡ asked_before → AskedAsWished wish asked_before asked_now
  Wished : (request : Request) → wish ≡ Wants request → asked_now ≡ asked_more asked_before request → AskedAsWished wish asked_before asked_now

-- how a greeting ended, by what a door may refuse, which ID it may name and what it says where it gives, and what was
-- wished, left unread, written and asked
abbrev pub Ends : {P : Type 0} → (Request → Refused → Type 0) → (Request → List ℕ → Type 0) → (Request → Welcome P → Type 0) → Wish → List ℕ → List ℕ → Option (List ℕ) → Option (List ℕ) → Option (List ℕ) → Option (List Request) → Option (List Request) → Greeted P → Type 0
Ends May Named Gives wish args rest left before now asked_before asked_now (greeted.Ready welcome) = (request : Request) × (wish ≡ Wants request) × (now ≡ gained before (args ++ ready_text welcome.id)) × (asked_now ≡ asked_more asked_before request) × Named request welcome.id × Gives request welcome
Ends May Named Gives wish args rest left before now asked_before asked_now (greeted.Refused status) = (now ≡ gained before (args ++ error_text status)) × RefusedFor May wish rest status asked_before asked_now
Ends May Named Gives wish args rest left before now asked_before asked_now greeted.Ended = (wish ≡ Unfinished) × IsUnfinished rest × AtEnd left × (now ≡ gained before args) × (asked_now ≡ asked_before)
Ends May Named Gives wish args rest left before now asked_before asked_now greeted.ReadFault = (wish ≡ Unfinished) × (now ≡ gained before args) × (asked_now ≡ asked_before)
Ends May Named Gives wish args rest left before now asked_before asked_now greeted.WriteFault = (text : List ℕ) × IsReplyTo May Named wish rest text × GainedFront before now (args ++ text) × AskedAsWished wish asked_before asked_now
Ends May Named Gives wish args rest left before now asked_before asked_now greeted.NoMemory = (text : List ℕ) × IsReplyTo May Named wish rest text × GainedFront before now (args ++ text) × AskedAsWished wish asked_before asked_now

-- a fact of a greeting that asked the door nothing, since its instructions ask for nothing or are out of form
abbrev pub UnlessWanted : Wish → Type 0 → Type 0
UnlessWanted Unfinished F = F
UnlessWanted (Refuses status) F = F
UnlessWanted (Wants request) F = Unit {0}

-- a greeting: the bytes that it read are these instructions, none behind those that settle what is asked, and then the
-- rest; and it asked, wrote and ended by them
pub record IsGreeting {P : Type 0} (id_of : List ℕ → Option (List ℕ)) (gives : Request → Welcome P → Type 0) (before after : DoorView) (left_old left_new written_old written_new : Option (List ℕ)) (rest : List ℕ) (result : Greeted P) : Type 0 where
  pub bytes : List ℕ
  pub instructions : List (List (List ℕ))
  pub known : Bool
  pub came_is : left_old ≡ came bytes left_new
  pub split : Splits bytes instructions rest
  pub no_further : ReadsNoFurther (asks known) instructions
  pub looked : IsLook id_of before.sessions known instructions
  pub unasked : UnlessWanted (asks known instructions) (Told before.sessions after.sessions Same)
  pub ends : Ends (MayRefuse id_of before after) (Names id_of before after) gives (asks known instructions) (args_for (selected known instructions)) rest left_new written_old written_new before.asked after.asked result
