use Rattle.std.proofs.Common.{◌≡◌, ◌++◌, take, drop, map}
use Rattle.screen_grid.specs.Runs.{like}
use Rattle.screen_grid.proofs.runs.draw.Given as goal

-- the cells before the place are drawn
abbrev pub invariant-loop-i : goal.invariant-loop-i
invariant-loop-i l = l.run ≡ map (like l.pen) (take l.i l.text) ++ drop l.i l.fn.run
