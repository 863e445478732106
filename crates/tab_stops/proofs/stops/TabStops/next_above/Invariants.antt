use Rattle.std.proofs.Common.{◌≡◌, ◌+◌, ◌-◌, ◌≤◌, length, drop, not}
use Rattle.std.specs.List.{prefix_len}
use Rattle.tab_stops.proofs.stops.TabStops.next_above.Given as goal

-- no stop was passed
abbrev pub invariant-loop-column : goal.invariant-loop-column
invariant-loop-column l = (l.column ≤ length l.self-inside.held.items) × (l.column + prefix_len not (drop l.column l.self-inside.held.items) ≡ l.x + 1 + prefix_len not (drop (l.x + 1) l.self-inside.held.items))

abbrev pub decreases-loop-column : goal.decreases-loop-column
decreases-loop-column l = l.last - l.column
