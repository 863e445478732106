use Rattle.std.proofs.Common.{◌≡◌, ◌+◌, ◌≤◌}
use Rattle.frame_draw.specs.Along.{count_below, is_on}
use Rattle.frame_draw.proofs.blanks.count.Given as goal

-- so many of the places up to this one are wanted
abbrev pub invariant-loop-place : goal.invariant-loop-place
invariant-loop-place l = (count_below (is_on l.wanted) l.fn.from + l.count ≡ count_below (is_on l.wanted) l.place) × (l.count ≤ l.place)
