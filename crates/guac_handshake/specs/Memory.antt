-- What a door in memory tells (this project's own).
use Rattle.std.specs.Prelude.{Option, Some, None}
use Rattle.gate_model.specs.session.History.{History}
use Rattle.id_table.specs.Maps.{Map}
use Rattle.guac_handshake.specs.Doors.{Sessions}

-- the IDs of a table, whose histories aren't told
abbrev pub untold_at : {V : Type 0} → Option V → Option (Option History)
untold_at None = None
untold_at (Some v) = Some None

abbrev pub untold : {V : Type 0} → Map V → Sessions
untold m id = untold_at (m id)
