-- What a door tells of itself, and what each call does to it (this project's own).
use Rattle.std.specs.Prelude.{◌≡◌, ℕ, List, Option, IfSome, Result, is_some}
use Rattle.gate_outside.specs.Edge.{Rose}
use Rattle.gate_outside.specs.Helpers.{CountsFaults, HelperView, Starts}
use Rattle.gate_model.specs.declared.sharing.Asked.{Asked}
use Rattle.id_table.specs.Maps.{Same, Told}
use Rattle.guac_handshake.specs.declared.ask.Ask.{Ask}
use Rattle.guac_handshake.specs.declared.refused.Refused.{Refused}
use Rattle.guac_handshake.specs.declared.refused.Refused.TheVariants.{Busy, Conflict, Dial}
use Rattle.guac_handshake.specs.declared.request.Request.{Request}
use Rattle.guac_handshake.specs.declared.request.Request.TheVariants.{Begin, Join}
use Rattle.guac_handshake.specs.declared.welcome.Welcome.{Welcome}
use Rattle.guac_handshake.specs.Doors.{AddedBy, AddedOne, AreTaken, HasConflict, IsAbsent, IsBeginRefusal, IsBusy, IsDial, JoinRefuses, KeepsIds, MeetsConflict, MeetsHistory, RemovedOne, Sessions, at_name, logged, one_more_out, option_less}

-- the sessions by ID, each with its history, how many places are out, and what the door was asked, oldest first, but for
-- what it refused for want of memory: each where the door tells it; and what its helper tells
pub record DoorView : Type 0 where
  pub sessions : Option Sessions
  pub out : Option ℕ
  pub asked : Option (List Request)
  pub helper : HelperView

-- a call that looks at the sessions alone
pub record Looks (before after : DoorView) : Type 0 where
  pub sessions : Told before.sessions after.sessions Same
  pub out : after.out ≡ before.out
  pub asked : after.asked ≡ before.asked
  pub helper : after.helper ≡ before.helper

-- a call that counts a job that wasn't started
pub record Notes (before after : DoorView) : Type 0 where
  pub sessions : after.sessions ≡ before.sessions
  pub out : after.out ≡ before.out
  pub asked : after.asked ≡ before.asked
  pub helper : Starts (Unit {0}) before.helper after.helper

-- a call that begins the session that is asked for, under the ID that the result has: Dial comes only where the count of
-- dials that failed rose, Busy only where that of starts did, and Conflict only where an ID is there
pub record Begins {A : Type 0} (name_of : A → Option (List ℕ)) (ask : Ask) (result : Result A Refused) (before after : DoorView) : Type 0 where
  pub sessions : Told before.sessions after.sessions (AddedBy name_of result)
  pub conflict : MeetsConflict before.sessions before.helper.draws result
  pub out : after.out ≡ one_more_out result before.out
  pub asked : after.asked ≡ logged before.asked (Begin ask) result
  pub helper : CountsFaults (IsDial result) (IsBusy result) before.helper after.helper

-- a call that takes back the session of this ID, which was begun
pub record Undoes (id : Option (List ℕ)) (before after : DoorView) : Type 0 where
  pub sessions : Told before.sessions after.sessions (RemovedOne id)
  pub out : after.out ≡ option_less before.out
  pub asked : after.asked ≡ before.asked
  pub helper : after.helper ≡ before.helper

-- a call by which a viewer joins the session of the ID that the name gives
pub record Joins {A : Type 0} (id : Option (List ℕ)) (name : List ℕ) (role : Asked) (result : Result A Refused) (before after : DoorView) : Type 0 where
  pub absent : Told before.sessions after.sessions (λ m n. IsAbsent result (is_some (at_name id m)))
  pub ids : Told before.sessions after.sessions (KeepsIds id)
  pub history : IfSome after.sessions (λ n. MeetsHistory (at_name id n) role result)
  pub out : after.out ≡ one_more_out result before.out
  pub asked : after.asked ≡ logged before.asked (Join name role) result
  pub helper : after.helper ≡ before.helper

-- a call that takes back a place of the session of this ID
pub record Gives (id : Option (List ℕ)) (before after : DoorView) : Type 0 where
  pub ids : Told before.sessions after.sessions (KeepsIds id)
  pub out : after.out ≡ option_less before.out
  pub asked : after.asked ≡ before.asked
  pub helper : after.helper ≡ before.helper

-- the welcome of one that joined by a name: its place is fresh, its ID is that of the name, and the door says this of it
pub record IsLetIn {P : Type 0} (is_fresh : P → List ℕ → Type 0) (id_of : List ℕ → Option (List ℕ)) (name : List ℕ) (says : Welcome P → Type 0) (welcome : Welcome P) : Type 0 where
  pub fresh : is_fresh welcome.place welcome.first
  pub same_id : id_of welcome.id ≡ id_of name
  pub joined : says welcome

-- a door refused a session that is to begin: for Dial the count of dials that failed rose, for Busy that of starts, and for
-- Conflict an ID was there, and the IDs of the next four draws were
pub record BeginRefuses (before after : DoorView) (refusal : Refused) : Type 0 where
  pub kind : IsBeginRefusal refusal
  pub dial : refusal ≡ Dial → Rose before.helper.dial_faults after.helper.dial_faults
  pub busy : refusal ≡ Busy → Rose before.helper.start_faults after.helper.start_faults
  pub conflict : refusal ≡ Conflict → HasConflict before.sessions × AreTaken before.sessions before.helper.draws

-- it refused what it was asked
abbrev pub MayRefuse : (List ℕ → Option (List ℕ)) → DoorView → DoorView → Request → Refused → Type 0
MayRefuse id_of before after (Begin ask) refusal = BeginRefuses before after refusal
MayRefuse id_of before after (Join name role) refusal = JoinRefuses (id_of name) before.sessions after.sessions role refusal

-- the ID by which a client may be told of what it asked for: that of the session that was added for it; where it joins, that
-- of the session that it named
abbrev pub Names : (List ℕ → Option (List ℕ)) → DoorView → DoorView → Request → List ℕ → Type 0
Names id_of before after (Begin ask) id = Told before.sessions after.sessions (AddedOne (id_of id))
Names id_of before after (Join name role) id = id_of id ≡ id_of name
