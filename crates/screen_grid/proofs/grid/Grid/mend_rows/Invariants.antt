use Rattle.screen_grid.specs.Mending.{HasMendedRows}
use Rattle.screen_grid.proofs.grid.Grid.mend_rows.Given as goal

-- the first rows are mended
abbrev pub invariant-loop-y : goal.invariant-loop-y
invariant-loop-y l = HasMendedRows l.y l.fn.self l.self
