-- The contract of a door: its refusals, its sessions, its places and what it was asked (this project's own).
use Rattle.std.specs.Prelude.{◌≡◌, ◌≢◌, ℕ, ◌+◌, ◌-◌, ◌<◌, ◌⊎◌, List, [], ◌∷◌, ◌++◌, Bool, true, false, Option, Some, None, IsSome, IfSome, Result, Ok, Err, is_some}
use Rattle.std.specs.Option.{option_map}
use Rattle.gate_model.specs.session.History.{History, share_mode}
use Rattle.gate_model.specs.session.Refusals.{join_refusal}
use Rattle.gate_model.specs.session.Roles.{grant_of}
use Rattle.gate_model.specs.declared.entry.Entry.TheVariants as entry
use Rattle.gate_model.specs.declared.instr.Instr.{Instr}
use Rattle.gate_model.specs.declared.join_refusal.JoinRefusal.{JoinRefusal}
use Rattle.gate_model.specs.declared.join_refusal.JoinRefusal.TheVariants as refusal
use Rattle.gate_model.specs.declared.sharing.Asked.{Asked}
use Rattle.gate_model.specs.declared.sharing.Role.{Role}
use Rattle.id_table.specs.Draws.{nth_id}
use Rattle.id_table.specs.Maps.{Map, Same}
use Rattle.guac_handshake.specs.declared.ask.Ask.{Ask}
use Rattle.guac_handshake.specs.declared.refused.Refused.{Refused}
use Rattle.guac_handshake.specs.declared.refused.Refused.TheVariants.{Absent, Conflict, Dial, Busy, Closed, Forbidden, TooMany, Worn, NoMemory}
use Rattle.guac_handshake.specs.declared.request.Request.{Request}
use Rattle.guac_handshake.specs.declared.request.Request.TheVariants.{Begin, Join}
use Rattle.guac_handshake.specs.declared.welcome.Welcome.{Welcome}

-- the sessions by ID, each with its history, where that is told
abbrev pub Sessions : Type 0
Sessions = Map (Option History)

-- what is under the ID of a name
abbrev pub at_name : {V : Type 0} → Option (List ℕ) → Map V → Option V
at_name None m = None
at_name (Some id) m = m id

module _ {A : Type 0} where
  abbrev pub IsDial : Result A Refused → Type 0
  IsDial r = r ≡ Err Dial

  abbrev pub IsBusy : Result A Refused → Type 0
  IsBusy r = r ≡ Err Busy

  abbrev pub IsConflict : Result A Refused → Type 0
  IsConflict r = r ≡ Err Conflict

-- the refusals of a door that makes a session, before its jobs are started
abbrev pub IsOpenRefusal : Refused → Type 0
IsOpenRefusal Dial = Unit {0}
IsOpenRefusal Conflict = Unit {0}
IsOpenRefusal NoMemory = Unit {0}
IsOpenRefusal Busy = ⊥
IsOpenRefusal Absent = ⊥
IsOpenRefusal Closed = ⊥
IsOpenRefusal Forbidden = ⊥
IsOpenRefusal TooMany = ⊥
IsOpenRefusal Worn = ⊥

-- the refusals of a door that begins a session
abbrev pub IsBeginRefusal : Refused → Type 0
IsBeginRefusal Dial = Unit {0}
IsBeginRefusal Conflict = Unit {0}
IsBeginRefusal NoMemory = Unit {0}
IsBeginRefusal Busy = Unit {0}
IsBeginRefusal Absent = ⊥
IsBeginRefusal Closed = ⊥
IsBeginRefusal Forbidden = ⊥
IsBeginRefusal TooMany = ⊥
IsBeginRefusal Worn = ⊥

-- the refusals of a door that lets a viewer join
abbrev pub IsJoinRefusal : Refused → Type 0
IsJoinRefusal Absent = Unit {0}
IsJoinRefusal Closed = Unit {0}
IsJoinRefusal Forbidden = Unit {0}
IsJoinRefusal TooMany = Unit {0}
IsJoinRefusal Worn = Unit {0}
IsJoinRefusal NoMemory = Unit {0}
IsJoinRefusal Dial = ⊥
IsJoinRefusal Conflict = ⊥
IsJoinRefusal Busy = ⊥

-- a session was added under an ID that was absent, and no other
abbrev pub AddedOne : Option (List ℕ) → Sessions → Sessions → Type 0
AddedOne name m n = (id : List ℕ) × (name ≡ Some id) × (m id ≡ None) × IsSome (n id) × ((k : List ℕ) → k ≢ id → n k ≡ m k)

-- one was added of the name that the result has; where there is a refusal, they are as they were
abbrev pub AddedBy : {A : Type 0} → (A → Option (List ℕ)) → Result A Refused → Sessions → Sessions → Type 0
AddedBy name_of (Ok a) m n = AddedOne (name_of a) m n
AddedBy name_of (Err refused) m n = Same m n

-- the session of this name is gone, and no other
abbrev pub RemovedOne : Option (List ℕ) → Sessions → Sessions → Type 0
RemovedOne name m n = (k : List ℕ) → (name ≡ Some k → n k ≡ None) × (name ≢ Some k → n k ≡ m k)

-- the same IDs are there, and only the history under this name may be another
abbrev pub SameId : {V : Type 0} → Option V → Option V → Type 0
SameId None None = Unit {0}
SameId None (Some w) = ⊥
SameId (Some v) None = ⊥
SameId (Some v) (Some w) = Unit {0}

abbrev pub KeepsIds : Option (List ℕ) → Sessions → Sessions → Type 0
KeepsIds name m n = (k : List ℕ) → SameId (m k) (n k) × (name ≢ Some k → n k ≡ m k)

-- the sessions once a place was given in the one of this name: it was added for who asked for one that is to begin
abbrev pub PlacesIn : Request → Option (List ℕ) → Sessions → Sessions → Type 0
PlacesIn (Begin ask) name m n = AddedOne name m n
PlacesIn (Join asked role) name m n = KeepsIds name m n

-- one session at most is touched: it was added under this name, or its history alone may be another
abbrev pub TouchesOne : Option (List ℕ) → Sessions → Sessions → Type 0
TouchesOne name m n = AddedOne name m n ⊎ KeepsIds name m n

-- some ID is there, where the door tells
abbrev pub HasConflict : Option Sessions → Type 0
HasConflict None = Unit {0}
HasConflict (Some m) = (id : List ℕ) × IsSome (m id)

-- the IDs of the next four draws are there
abbrev pub AreAllThere : Sessions → (ℕ → List ℕ) → Type 0
AreAllThere m draws = (k : ℕ) → k < 4 → IsSome (m (nth_id draws k))

-- where the sessions and the draws are told, a conflict comes exactly where the next four IDs are there, but for a failed
-- dial and want of memory
abbrev pub IsExact : {A : Type 0} → Sessions → (ℕ → List ℕ) → Result A Refused → Type 0
IsExact m draws (Ok a) = ¬ (AreAllThere m draws)
IsExact m draws (Err Conflict) = AreAllThere m draws
IsExact m draws (Err Busy) = ¬ (AreAllThere m draws)
IsExact m draws (Err Dial) = Unit {0}
IsExact m draws (Err NoMemory) = Unit {0}
IsExact m draws (Err Absent) = Unit {0}
IsExact m draws (Err Closed) = Unit {0}
IsExact m draws (Err Forbidden) = Unit {0}
IsExact m draws (Err TooMany) = Unit {0}
IsExact m draws (Err Worn) = Unit {0}

abbrev pub TellsConflict : {A : Type 0} → Option Sessions → Option (ℕ → List ℕ) → Result A Refused → Type 0
TellsConflict None draws r = Unit {0}
TellsConflict (Some m) None r = Unit {0}
TellsConflict (Some m) (Some draws) r = IsExact m draws r

-- a conflict comes only where some ID is there, and exactly as above
abbrev pub MeetsConflict : {A : Type 0} → Option Sessions → Option (ℕ → List ℕ) → Result A Refused → Type 0
MeetsConflict sessions draws r = (IsConflict r → HasConflict sessions) × TellsConflict sessions draws r

-- the same of a conflict that came
abbrev pub AreTaken : Option Sessions → Option (ℕ → List ℕ) → Type 0
AreTaken None draws = Unit {0}
AreTaken (Some m) None = Unit {0}
AreTaken (Some m) (Some draws) = AreAllThere m draws

-- Absent comes exactly where the ID isn't there; want of memory comes behind that
abbrev pub IsAbsent : {A : Type 0} → Result A Refused → Bool → Type 0
IsAbsent (Err Absent) there = there ≡ false
IsAbsent (Err NoMemory) there = there ≡ true
IsAbsent (Err Closed) there = there ≡ true
IsAbsent (Err Forbidden) there = there ≡ true
IsAbsent (Err TooMany) there = there ≡ true
IsAbsent (Err Worn) there = there ≡ true
IsAbsent (Err Dial) there = there ≡ true
IsAbsent (Err Conflict) there = there ≡ true
IsAbsent (Err Busy) there = there ≡ true
IsAbsent (Ok a) there = there ≡ true

-- a door's refusal for that of a session
abbrev pub refused_of : JoinRefusal → Refused
refused_of (refusal.Closed cause) = Closed
refused_of refusal.Forbidden = Forbidden
refused_of (refusal.TooMany live joined) = TooMany
refused_of (refusal.Worn entries) = Worn
refused_of refusal.NoMemory = NoMemory

-- the answer is that of the rules after a history, which at Ok ends with a Join of the role that the table gives; want of
-- memory is told only where they refuse nothing
abbrev pub MeetsTold : {A : Type 0} → History → Asked → Result A Refused → Type 0
MeetsTold h role (Ok a) = (viewer : ℕ) × (granted : Role) × (first : List Instr) × (before : History) × (h ≡ entry.Join viewer granted first ∷ before) × (join_refusal before role ≡ None) × (grant_of (share_mode before) role ≡ Ok granted)
MeetsTold h role (Err Closed) = option_map refused_of (join_refusal h role) ≡ Some Closed
MeetsTold h role (Err Forbidden) = option_map refused_of (join_refusal h role) ≡ Some Forbidden
MeetsTold h role (Err TooMany) = option_map refused_of (join_refusal h role) ≡ Some TooMany
MeetsTold h role (Err Worn) = option_map refused_of (join_refusal h role) ≡ Some Worn
MeetsTold h role (Err NoMemory) = join_refusal h role ≡ None
MeetsTold h role (Err Absent) = Unit {0}
MeetsTold h role (Err Dial) = Unit {0}
MeetsTold h role (Err Conflict) = Unit {0}
MeetsTold h role (Err Busy) = Unit {0}

-- the same where the session is there and its history is told
abbrev pub MeetsHistory : {A : Type 0} → Option (Option History) → Asked → Result A Refused → Type 0
MeetsHistory None role r = Unit {0}
MeetsHistory (Some None) role r = Unit {0}
MeetsHistory (Some (Some h)) role r = MeetsTold h role r

-- a place more is out where one was given
abbrev pub one_more_out : {A : Type 0} → Result A Refused → Option ℕ → Option ℕ
one_more_out (Ok a) out = option_map (λ n. n + 1) out
one_more_out (Err refused) out = out

-- one less
abbrev pub option_less : Option ℕ → Option ℕ
option_less out = option_map (λ n. n - 1) out

-- the door was asked once more, but for want of memory
abbrev pub asked_more : Option (List Request) → Request → Option (List Request)
asked_more log request = option_map (λ requests. requests ++ request ∷ []) log

abbrev pub logged_for : Option (List Request) → Request → Refused → Option (List Request)
logged_for log request NoMemory = log
logged_for log request Absent = asked_more log request
logged_for log request Conflict = asked_more log request
logged_for log request Dial = asked_more log request
logged_for log request Busy = asked_more log request
logged_for log request Closed = asked_more log request
logged_for log request Forbidden = asked_more log request
logged_for log request TooMany = asked_more log request
logged_for log request Worn = asked_more log request

abbrev pub logged : {A : Type 0} → Option (List Request) → Request → Result A Refused → Option (List Request)
logged log request (Ok a) = asked_more log request
logged log request (Err refused) = logged_for log request refused

-- what the rules refuse to a joiner after the history of a session that is there, or, where they refuse nothing, want of
-- memory; where none is there, it is Absent
abbrev pub RefusesAt : Option (Option History) → Asked → Refused → Type 0
RefusesAt None role refusal = refusal ≡ Absent
RefusesAt (Some told) role refusal = IfSome told (λ h. ((refusal ≡ NoMemory) × (join_refusal h role ≡ None)) ⊎ (option_map refused_of (join_refusal h role) ≡ Some refusal))

-- it refused a joiner: for Absent exactly where the ID wasn't there, and else by the rules after the session's history, or,
-- last, for want of memory
abbrev pub JoinRefuses : Option (List ℕ) → Option Sessions → Option Sessions → Asked → Refused → Type 0
JoinRefuses id before after role refusal =
    IsJoinRefusal refusal × IfSome before (λ m. IsAbsent {A = Unit {0}} (Err refusal) (is_some (at_name id m))) × IfSome after (λ n. RefusesAt (at_name id n) role refusal)

-- a session is there, and where its history is told the rules after it refuse some joiner for this
abbrev pub HasRefused : Option Sessions → Refused → Type 0
HasRefused after refusal =
    IfSome after (λ n. (id : List ℕ) × (told : Option History) × (role : Asked) × (n id ≡ Some told) × IfSome told (λ h. option_map refused_of (join_refusal h role) ≡ Some refusal))

-- what a door says of itself once it gave a welcome to who asked for this: of a session, that it began as it was asked; of
-- a viewer, that it joined as it asked
abbrev pub Grants : {P : Type 0} → (Ask → Welcome P → Type 0) → (Asked → Welcome P → Type 0) → Request → Welcome P → Type 0
Grants begun joined (Begin ask) welcome = begun ask welcome
Grants begun joined (Join name role) welcome = joined role welcome
