use Rattle.screen_grid.proofs.Refitting.{IsFilled}
use Rattle.screen_grid.proofs.grid.Grid.refitted.Given as goal

-- the places so far have their cells
abbrev pub invariant-loop-at : goal.invariant-loop-at
invariant-loop-at l = IsFilled l.self l.cols l.count l.at l.held
