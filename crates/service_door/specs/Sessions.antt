-- A session in the table, as contracts see it (this project's own).
use Rattle.std.specs.Prelude.{◌≡◌, ℕ, ◌+◌, ◌-◌, ◌^◌, ◌==◌, min, nat_lt, List, Bool, true, false, refl, ◌&&◌, if◌then◌else◌, Option, Some, None}
use Rattle.gate_model.specs.session.History.{History}
use Rattle.gate_outside.specs.Helpers.{HelperView}
use Rattle.guac_handshake.specs.Doors.{Sessions}
use Rattle.guac_handshake.specs.Views.{DoorView}
use Rattle.id_table.specs.Maps.{IsLent, Shelved}
use Rattle.shared_desk.specs.Hosts.{HostState}
use Rattle.service_door.specs.declared.marks.Ended.{Ended}
use Rattle.service_door.specs.declared.marks.Deserted.{Deserted}

-- what its host's pass is, and how many of its places are out
pub record SessionState : Type 0 where
  pub host : HostState
  pub places : ℕ

-- a place more is out, or less; the number ends at 2^64 - 1
abbrev pub one_more : ℕ → ℕ
one_more places = min (places + 1) (2 ^ 64 - 1)

abbrev pub one_less : ℕ → ℕ
one_less places = places - 1

-- both jobs of a session had ended at a look
abbrev pub have_both_ended : Ended → Bool
have_both_ended ended = ended.pump && ended.sender

-- the session may leave the table: both had ended, and no place of it is out
abbrev pub may_leave : Ended → ℕ → Bool
may_leave ended places = places == 0 && have_both_ended ended

leaves_once_both_ended : (may_leave (record { pump = true; sender = true }) 0 ≡ true) × (may_leave (record { pump = true; sender = false }) 0 ≡ false) × (may_leave (record { pump = true; sender = true }) 1 ≡ false)
leaves_once_both_ended = (refl, refl, refl)

-- .. as somebody told of its jobs
abbrev pub IsOver : (SessionState → Ended → Type 0) → SessionState → Type 0
IsOver tells session = (ended : Ended) × tells session ended × (may_leave ended session.places ≡ true)

-- nobody was there at more than `most` looks in a row, or at one where nobody may join
abbrev pub is_passed_over : Deserted → ℕ → Bool
is_passed_over deserted most = nat_lt (if deserted.joinable then most else 0) deserted.looks

-- .. and no place of it is out
abbrev pub is_deserted : Deserted → ℕ → ℕ → Bool
is_deserted deserted most places = places == 0 && is_passed_over deserted most

deserted_past_the_last_look : (is_deserted (record { looks = 3; joinable = true }) 2 0 ≡ true) × (is_deserted (record { looks = 2; joinable = true }) 2 0 ≡ false) × (is_deserted (record { looks = 1; joinable = false }) 2 0 ≡ true)
deserted_past_the_last_look = (refl, refl, refl)

-- .. as somebody told
abbrev pub HasNobody : (SessionState → Deserted → Type 0) → ℕ → SessionState → Type 0
HasNobody tells most session = (deserted : Deserted) × tells session deserted × (is_deserted deserted most session.places ≡ true)

-- the history of what is under an ID: what the host's pass has seen. A session that is lent isn't told
abbrev pub history_of : Option (Option SessionState) → Option (Option History)
history_of None = None
history_of (Some None) = Some None
history_of (Some (Some s)) = Some (Some s.host.view.seen)

-- the histories of a table, where its shelf tells it
abbrev pub histories : Shelved SessionState → Sessions
histories m id = history_of (m id)

abbrev pub sessions_of : Option (Shelved SessionState) → Option Sessions
sessions_of None = None
sessions_of (Some m) = Some (histories m)

-- what a door over a table tells, and by a helper: neither its places nor what it was asked
abbrev pub door_view : Option (Shelved SessionState) → HelperView → DoorView
door_view told helper = record { sessions = sessions_of told; out = None; asked = None; helper = helper }

-- no session is lent, where the shelf tells
abbrev pub NoneLent : {V : Type 0} → Option (Shelved V) → Type 0
NoneLent told = (m : Shelved _) → told ≡ Some m → (id : List ℕ) → ¬ (IsLent id m)
