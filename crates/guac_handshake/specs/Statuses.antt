-- The statuses of a door's refusals (which refusal has which is this project's own).
use Rattle.std.specs.Prelude.{ℕ}
use Rattle.gate_model.specs.text.Statuses as statuses
use Rattle.guac_handshake.specs.declared.refused.Refused.{Refused}
use Rattle.guac_handshake.specs.declared.refused.Refused.TheVariants.{Absent, Conflict, Dial, Busy, Closed, Forbidden, TooMany, Worn, NoMemory}

abbrev pub status_of : Refused → ℕ
status_of NoMemory = statuses.no_memory
status_of Busy = statuses.server_busy
status_of Absent = statuses.not_found
status_of Conflict = statuses.conflict
status_of Dial = statuses.upstream_not_found
status_of Closed = statuses.session_closed
status_of Worn = statuses.session_closed
status_of Forbidden = statuses.forbidden
status_of TooMany = statuses.too_many
