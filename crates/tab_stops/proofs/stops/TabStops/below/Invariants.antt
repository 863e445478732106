use Rattle.std.proofs.Common.{◌≡◌, ◌≤◌}
use Rattle.gate_model.specs.terminal.TabStops.{stops_below}
use Rattle.tab_stops.proofs.stops.TabStops.below.Given as goal

-- the moves that are left lead where all of them lead from the first column
abbrev pub invariant-loop-left : goal.invariant-loop-left
invariant-loop-left l = (l.column ≤ l.x) × (stops_below l.self l.left l.column ≡ stops_below l.self l.n l.x)

abbrev pub decreases-loop-left : goal.decreases-loop-left
decreases-loop-left l = l.left
