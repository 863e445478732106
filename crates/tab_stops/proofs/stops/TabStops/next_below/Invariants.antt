use Rattle.std.proofs.Common.{◌≡◌, ◌+◌, ◌≤◌, take, not}
use Rattle.std.specs.List.{suffix_len}
use Rattle.tab_stops.proofs.stops.TabStops.next_below.Given as goal

-- no stop was passed
abbrev pub invariant-loop-column : goal.invariant-loop-column
invariant-loop-column l = (l.column ≤ l.x) × (l.x + suffix_len not (take l.column l.self-inside.held.items) ≡ l.column + suffix_len not (take l.x l.self-inside.held.items))

abbrev pub decreases-loop-column : goal.decreases-loop-column
decreases-loop-column l = l.column
