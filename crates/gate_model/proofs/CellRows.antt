-- Worked facts of the edits of a grid, which the checker computes.
use Rattle.std.proofs.Common.{◌≡◌, ℕ, List, [], ◌∷◌, false, refl}
use Rattle.std.specs.Prelude.{map}
use Rattle.gate_model.specs.declared.cell.Cell.{Cell}
use Rattle.gate_model.specs.declared.cell.Half.TheVariants.{Whole}
use Rattle.gate_model.specs.terminal.Cells.{CellGrid, blank_grid, cell_at, put, erased, inserted, deleted, scrolled_up, scrolled_down}

-- a cell of a character, in the colours of a blank one
letter : ℕ → Cell
letter c = record { ch = c; ink = 7; paper = 0; under = false; half = Whole }

-- a grid of 3 columns and 3 rows with the characters A to I, row by row
letters : CellGrid
letters = record { cols = 3; rows = 3; cells = map letter (65 ∷ 66 ∷ 67 ∷ 68 ∷ 69 ∷ 70 ∷ 71 ∷ 72 ∷ 73 ∷ []) }

-- the same size with other characters
others : List ℕ → CellGrid
others chars = record { cols = 3; rows = 3; cells = map letter chars }

-- a new grid is blank, and the second cell of the third row is the eighth
places : (blank_grid 3 3 ≡ others (32 ∷ 32 ∷ 32 ∷ 32 ∷ 32 ∷ 32 ∷ 32 ∷ 32 ∷ 32 ∷ [])) × (cell_at 1 2 letters ≡ letter 72)
unfolding letter letters others
places = (refl, refl)

-- one cell of the second row; two cells of it; none
one_row : (put 2 1 (letter 88) letters ≡ others (65 ∷ 66 ∷ 67 ∷ 68 ∷ 69 ∷ 88 ∷ 71 ∷ 72 ∷ 73 ∷ [])) × (erased 1 0 2 letters ≡ others (65 ∷ 66 ∷ 67 ∷ 32 ∷ 32 ∷ 70 ∷ 71 ∷ 72 ∷ 73 ∷ [])) × (erased 1 2 2 letters ≡ letters)
unfolding letter letters others
one_row = (refl, refl, refl)

-- ICH and DCH at the second column of the second row, by 1, by more than the row has, and by 0
within_a_row : (inserted 1 1 1 letters ≡ others (65 ∷ 66 ∷ 67 ∷ 68 ∷ 32 ∷ 69 ∷ 71 ∷ 72 ∷ 73 ∷ [])) × (inserted 1 1 9 letters ≡ others (65 ∷ 66 ∷ 67 ∷ 68 ∷ 32 ∷ 32 ∷ 71 ∷ 72 ∷ 73 ∷ [])) × (deleted 1 1 1 letters ≡ others (65 ∷ 66 ∷ 67 ∷ 68 ∷ 70 ∷ 32 ∷ 71 ∷ 72 ∷ 73 ∷ [])) × (deleted 1 1 9 letters ≡ others (65 ∷ 66 ∷ 67 ∷ 68 ∷ 32 ∷ 32 ∷ 71 ∷ 72 ∷ 73 ∷ [])) × (deleted 1 1 0 letters ≡ letters)
unfolding letter letters others
within_a_row = (refl, refl, refl, refl, refl)

-- SU and SD of the whole grid, and within the first two rows
rows : (scrolled_up 0 2 1 letters ≡ others (68 ∷ 69 ∷ 70 ∷ 71 ∷ 72 ∷ 73 ∷ 32 ∷ 32 ∷ 32 ∷ [])) × (scrolled_up 0 1 1 letters ≡ others (68 ∷ 69 ∷ 70 ∷ 32 ∷ 32 ∷ 32 ∷ 71 ∷ 72 ∷ 73 ∷ [])) × (scrolled_down 0 2 2 letters ≡ others (32 ∷ 32 ∷ 32 ∷ 32 ∷ 32 ∷ 32 ∷ 65 ∷ 66 ∷ 67 ∷ [])) × (scrolled_down 1 2 1 letters ≡ others (65 ∷ 66 ∷ 67 ∷ 32 ∷ 32 ∷ 32 ∷ 68 ∷ 69 ∷ 70 ∷ [])) × (scrolled_down 0 1 9 letters ≡ others (32 ∷ 32 ∷ 32 ∷ 32 ∷ 32 ∷ 32 ∷ 71 ∷ 72 ∷ 73 ∷ []))
unfolding letter letters others
rows = (refl, refl, refl, refl, refl)
