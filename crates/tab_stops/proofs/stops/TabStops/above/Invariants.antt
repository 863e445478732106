use Rattle.std.proofs.Common.{◌≡◌, ◌<◌, length}
use Rattle.gate_model.specs.terminal.TabStops.{stops_above}
use Rattle.tab_stops.proofs.stops.TabStops.above.Given as goal

-- the moves that are left lead where all of them lead from the first column
abbrev pub invariant-loop-left : goal.invariant-loop-left
invariant-loop-left l = (l.column < length l.self) × (stops_above l.self l.left l.column ≡ stops_above l.self l.n l.x)

abbrev pub decreases-loop-left : goal.decreases-loop-left
decreases-loop-left l = l.left
