-- The cells of a grid's fields, and what is known of them.
use Rattle.std.specs.Prelude.{◌≡◌, ◌*◌, false, length}
use Rattle.gate_model.specs.terminal.Cells.{CellGrid}
use Rattle.gate_model.specs.terminal.MendLaws.{AreWhole}
use Rattle.screen_grid.specs.declared.grid.Grid.TheInside.{Inside}

abbrev pub cells_of : Inside → CellGrid
cells_of g = record { cols = g.columns; rows = g.lines; cells = g.held }

-- there is a cell for each place, and where no half is noted every cell is whole
pub record IsHeld (g : Inside) : Type 0 where
  pub size : length g.held ≡ g.lines * g.columns
  pub wholes : g.halves ≡ false → AreWhole (cells_of g)
