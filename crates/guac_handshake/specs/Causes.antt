-- Why a greeting ends: what a reading may end with, and what stands behind the code of a refusal (this project's own).
use Rattle.std.specs.Prelude.{◌≡◌, ◌⊎◌, ℕ}
use Rattle.guac_handshake.specs.declared.greeted.Greeted.{Greeted}
use Rattle.guac_handshake.specs.declared.greeted.Greeted.TheVariants as greeted
use Rattle.guac_handshake.specs.declared.refused.Refused.TheVariants as refused
use Rattle.guac_handshake.specs.declared.stop.Stop.{Stop}
use Rattle.guac_handshake.specs.declared.stop.Stop.TheVariants.{Refused, Ended, ReadFault, WriteFault, NoMemory}
use Rattle.gate_outside.specs.Edge.{Rose}
use Rattle.guac_handshake.specs.Doors.{AreTaken, HasConflict, HasRefused}
use Rattle.guac_handshake.specs.Views.{DoorView}
use Rattle.gate_model.specs.text.Statuses as statuses

-- before the door is asked, the only statuses are those of an unknown name and of a bad form; and a write failed
-- for this cause
abbrev pub IsEarly : Type 0 → Stop → Type 0
IsEarly Cause (Refused status) = (status ≡ statuses.not_found) ⊎ (status ≡ statuses.bad_request)
IsEarly Cause Ended = Unit {0}
IsEarly Cause ReadFault = Unit {0}
IsEarly Cause WriteFault = Cause
IsEarly Cause NoMemory = Unit {0}

-- what stands behind the code by which a client is told a door's refusal: the count of dials or that of starts rose, an ID
-- was there and the next four draws were, or the rules after a session's history refuse a joiner so
pub record HasCause (before after : DoorView) (code : ℕ) : Type 0 where
  pub dial : code ≡ statuses.upstream_not_found → Rose before.helper.dial_faults after.helper.dial_faults
  pub busy : code ≡ statuses.server_busy → Rose before.helper.start_faults after.helper.start_faults
  pub conflict : code ≡ statuses.conflict → HasConflict before.sessions × AreTaken before.sessions before.helper.draws
  pub closed : code ≡ statuses.session_closed → HasRefused after.sessions refused.Closed ⊎ HasRefused after.sessions refused.Worn
  pub forbidden : code ≡ statuses.forbidden → HasRefused after.sessions refused.Forbidden
  pub too_many : code ≡ statuses.too_many → HasRefused after.sessions refused.TooMany

-- a fact of the code of a greeting that was refused
abbrev pub IfRefused : {P : Type 0} → Greeted P → (ℕ → Type 0) → Type 0
IfRefused (greeted.Ready welcome) F = Unit {0}
IfRefused (greeted.Refused code) F = F code
IfRefused greeted.Ended F = Unit {0}
IfRefused greeted.ReadFault F = Unit {0}
IfRefused greeted.WriteFault F = Unit {0}
IfRefused greeted.NoMemory F = Unit {0}
