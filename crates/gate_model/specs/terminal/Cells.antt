-- The cells of a grid, and what each edit makes of them (this project's own; the edits are those of ECMA-48).
use Rattle.std.specs.Prelude.{ℕ, ◌+◌, ◌-◌, ◌*◌, ◌/◌, ◌%◌, min, List, length, take, drop, ◌++◌, map, replicate, slice_set, slice_range, get_or, Bool, true, false, ◌&&◌, ◌==◌, nat_le, nat_lt, if◌then◌else◌}
use Rattle.std.specs.List.{range_with_len}
use Rattle.gate_model.specs.declared.cell.Cell.{Cell}
use Rattle.gate_model.specs.declared.cell.Half.{Half}
use Rattle.gate_model.specs.declared.cell.Half.TheVariants.{Whole, Left, Right}

-- a space with ink 7, paper 0 and no underline
abbrev pub blank : Cell
blank = record { ch = 32; ink = 7; paper = 0; under = false; half = Whole }

-- columns, rows, and the cell of each place, row by row
pub record CellGrid : Type 0 where
  pub cols : ℕ
  pub rows : ℕ
  pub cells : List Cell

-- every cell is blank
abbrev pub blank_grid : ℕ → ℕ → CellGrid
blank_grid cols rows = record { cols = cols; rows = rows; cells = replicate (rows * cols) blank }

-- a run of cells moved towards its start by n: the first n go, and as many blanks come in at its end
abbrev pub moved_left : ℕ → List Cell → List Cell
moved_left n run = drop n run ++ replicate (min n (length run)) blank

-- a run of cells moved towards its end by n: the last n go, and as many blanks come in at its start
abbrev pub moved_right : ℕ → List Cell → List Cell
moved_right n run = replicate (min n (length run)) blank ++ take (length run - n) run

-- other cells in place of those from `from` up to, not including, `to`
abbrev pub with_part : ℕ → ℕ → List Cell → List Cell → List Cell
with_part from to run cells = take from cells ++ run ++ drop to cells

-- the place of column x of row y, counted row by row
abbrev pub place : ℕ → ℕ → CellGrid → ℕ
place x y g = y * g.cols + x

-- the cell at column x of row y
abbrev pub cell_at : ℕ → ℕ → CellGrid → Cell
cell_at x y g = get_or g.cells (place x y g) blank

-- the cell at column x of row y becomes another
abbrev pub put : ℕ → ℕ → Cell → CellGrid → CellGrid
put x y cell g = record g { cells = slice_set g.cells (place x y g) cell }

-- the columns from `from` up to, not including, `to` of row y become blank
abbrev pub erased : ℕ → ℕ → ℕ → CellGrid → CellGrid
erased y from to g = record g { cells = with_part (place from y g) (place to y g) (replicate (to - from) blank) g.cells }

-- the columns from x on of row y
abbrev pub rest_of_row : ℕ → ℕ → CellGrid → List Cell
rest_of_row x y g = slice_range g.cells (place x y g) (place g.cols y g)

-- the rows from top to bottom, both included
abbrev pub rows_of : ℕ → ℕ → CellGrid → List Cell
rows_of top bottom g = slice_range g.cells (place 0 top g) (place 0 (bottom + 1) g)

-- ICH: the cells of row y from column x on move right by n, and blanks come in at x
abbrev pub inserted : ℕ → ℕ → ℕ → CellGrid → CellGrid
inserted x y n g = record g { cells = with_part (place x y g) (place g.cols y g) (moved_right n (rest_of_row x y g)) g.cells }

-- DCH: n cells of row y go at column x, those right of them move left, and blanks come in at the end of the row
abbrev pub deleted : ℕ → ℕ → ℕ → CellGrid → CellGrid
deleted x y n g = record g { cells = with_part (place x y g) (place g.cols y g) (moved_left n (rest_of_row x y g)) g.cells }

-- SU: the rows from top to bottom, both included, move up by n, and blank rows come in at the bottom
abbrev pub scrolled_up : ℕ → ℕ → ℕ → CellGrid → CellGrid
scrolled_up top bottom n g = record g { cells = with_part (place 0 top g) (place 0 (bottom + 1) g) (moved_left (n * g.cols) (rows_of top bottom g)) g.cells }

-- SD: the rows from top to bottom, both included, move down by n, and blank rows come in at the top
abbrev pub scrolled_down : ℕ → ℕ → ℕ → CellGrid → CellGrid
scrolled_down top bottom n g = record g { cells = with_part (place 0 top g) (place 0 (bottom + 1) g) (moved_right (n * g.cols) (rows_of top bottom g)) g.cells }

-- the cell at column x of row y; a place that the grid doesn't have is blank
abbrev pub kept_at : ℕ → ℕ → CellGrid → Cell
kept_at x y g = if nat_lt x g.cols && nat_lt y g.rows then cell_at x y g else blank

-- a grid of another size: the cells that both sizes have stay, and all others are blank
abbrev pub resized : ℕ → ℕ → CellGrid → CellGrid
resized cols rows g = record { cols = cols; rows = rows; cells = map (λ at. kept_at (at % cols) (at / cols) g) (range_with_len 0 (rows * cols)) }

-- ---- characters of two places

-- the cells at column x and at the next one of row y become the halves of a character
abbrev pub paired : ℕ → ℕ → Cell → CellGrid → CellGrid
paired x y cell g = put (x + 1) y (record cell { half = Right }) (put x y (record cell { half = Left }) g)

abbrev pub left_half : Half → Bool
left_half Whole = false
left_half Left = true
left_half Right = false

abbrev pub right_half : Half → Bool
right_half Whole = false
right_half Left = false
right_half Right = true

-- a left half of this character stands before a right half of it, and a right half behind a left one; a whole
-- character stands anywhere
abbrev pub stands : ℕ → ℕ → Cell → ℕ → Cell → Half → Bool
stands cols x before ch behind Whole = true
stands cols x before ch behind Left = nat_lt (x + 1) cols && (right_half behind.half && ch == behind.ch)
stands cols x before ch behind Right = nat_le 1 x && (left_half before.half && before.ch == ch)

-- the cell at column x of row y is whole, or stands beside its other half
abbrev pub is_mended : ℕ → ℕ → CellGrid → Bool
is_mended x y g = let cell = cell_at x y g in stands g.cols x (cell_at (x - 1) y g) cell.ch (cell_at (x + 1) y g) cell.half

-- a space in the same colours
abbrev pub spaced : Cell → Cell
spaced cell = record cell { ch = 32; half = Whole }

-- a half without its other half becomes a space
abbrev pub mended_cell : ℕ → ℕ → CellGrid → Cell
mended_cell x y g = if is_mended x y g then cell_at x y g else spaced (cell_at x y g)

-- all of them do, at once
abbrev pub mended : CellGrid → CellGrid
mended g = record g { cells = map (λ at. mended_cell (at % g.cols) (at / g.cols) g) (range_with_len 0 (g.rows * g.cols)) }

-- .. and one of them alone
abbrev pub mended_at : ℕ → ℕ → CellGrid → CellGrid
mended_at x y g = put x y (mended_cell x y g) g
