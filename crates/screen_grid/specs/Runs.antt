-- A run of characters in a row of cells (this project's own).
use Rattle.std.specs.Prelude.{ℕ, ◌+◌, List, length, map}
use Rattle.gate_model.specs.declared.cell.Cell.{Cell}
use Rattle.gate_model.specs.terminal.Cells.{CellGrid, place, with_part}

-- the cell with another character
abbrev pub like : Cell → ℕ → Cell
like pen ch = record pen { ch = ch }

-- the columns of row y from x on become cells like the pen, one for each character
abbrev pub put_run : ℕ → ℕ → List ℕ → Cell → CellGrid → CellGrid
put_run x y text pen g = record g { cells = with_part (place x y g) (place x y g + length text) (map (like pen) text) g.cells }
