use Rattle.screen_grid.specs.Mending.{HasMended}
use Rattle.screen_grid.proofs.grid.Grid.mend_places.Given as goal

-- the first columns are mended
abbrev pub invariant-loop-x : goal.invariant-loop-x
invariant-loop-x l = HasMended l.y l.x l.fn.self l.self
