-- Laws of mending, which public functions of `laws::mending` prove: the halves beside an edit are all that can be
-- without their other half.
use Rattle.std.specs.Prelude.{◌≡◌, ℕ, ◌+◌, ◌-◌, ◌<◌, ◌≤◌, All, nat_le, nat_lt, if◌then◌else◌, true}
use Rattle.gate_model.specs.terminal.CellLaws.{IsFull}
use Rattle.gate_model.specs.terminal.Cells.{CellGrid, cell_at, is_mended, mended, mended_at, paired, put, erased, inserted, deleted, scrolled_up, scrolled_down}
use Rattle.gate_model.specs.declared.cell.Cell.{Cell}
use Rattle.gate_model.specs.declared.cell.Half.TheVariants.{Whole}

-- ---- what is mended

-- every cell is of a character of one place
abbrev pub AreWhole : CellGrid → Type 0
AreWhole g = All (λ (cell : Cell). cell.half ≡ Whole) g.cells

-- each half stands beside its other half
abbrev pub AreMended : CellGrid → Type 0
AreMended g = (x y : ℕ) → x < g.cols → y < g.rows → is_mended x y g ≡ true

-- .. but perhaps in row y
abbrev pub AreMendedBut : ℕ → CellGrid → Type 0
AreMendedBut y g = (column row : ℕ) → column < g.cols → row < g.rows → (row ≡ y → ⊥) → is_mended column row g ≡ true

-- .. but perhaps in the column before `from` and in column `to` of row y
abbrev pub AreMendedBeside : ℕ → ℕ → ℕ → CellGrid → Type 0
AreMendedBeside y from to g = (column row : ℕ) → column < g.cols → row < g.rows → (row ≡ y → column + 1 ≡ from → ⊥) → (row ≡ y → column ≡ to → ⊥) → is_mended column row g ≡ true

-- ---- one place after another

-- where one place is mended first, that place stays so, each other place is as it was, and to mend all leads to the same
pub record MendsOne (g : CellGrid) (x y : ℕ) : Type 0 where
  pub full : IsFull (mended_at x y g)
  pub here : is_mended x y (mended_at x y g) ≡ true
  pub others : (column row : ℕ) → column < g.cols → row < g.rows → (column ≡ x → row ≡ y → ⊥) → is_mended column row (mended_at x y g) ≡ is_mended column row g
  pub all : mended (mended_at x y g) ≡ mended g

abbrev pub PlacesMend : Type 0
PlacesMend = (g : CellGrid) (x y : ℕ) → IsFull g → x < g.cols → y < g.rows → MendsOne g x y

-- where nothing is to be mended, nothing changes
abbrev pub MendedStay : Type 0
MendedStay = (g : CellGrid) → IsFull g → AreMended g → mended g ≡ g

-- .. as where every cell is whole
abbrev pub WholesAreMended : Type 0
WholesAreMended = (g : CellGrid) → AreWhole g → AreMended g

-- all is mended after that
abbrev pub AllAreMended : Type 0
AllAreMended = (g : CellGrid) → IsFull g → IsFull (mended g) × AreMended (mended g)

-- ---- the places beside an edit

-- the place before a column, and the one at it, where they are there
abbrev pub mended_before : ℕ → ℕ → CellGrid → CellGrid
mended_before x y g = if nat_le 1 x then mended_at (x - 1) y g else g

abbrev pub mended_behind : ℕ → ℕ → CellGrid → CellGrid
mended_behind x y g = if nat_lt x g.cols then mended_at x y g else g

-- where two places can be without their other half, to mend them is to mend all
abbrev pub TwoMend : Type 0
TwoMend = (g : CellGrid) (y from to : ℕ) → IsFull g → y < g.rows → from ≤ g.cols → AreMendedBeside y from to g → mended g ≡ mended_behind to y (mended_before from y g)

-- the columns from `from` up to, not including, `to` of row y became others that are mended, and all else stays
pub record IsWindow (g h : CellGrid) (y from to : ℕ) : Type 0 where
  pub cols : h.cols ≡ g.cols
  pub rows : h.rows ≡ g.rows
  pub inside : (column : ℕ) → from ≤ column → column < to → is_mended column y h ≡ true
  pub outside : (column row : ℕ) → column < g.cols → row < g.rows → (row ≡ y → from ≤ column → column < to → ⊥) → cell_at column row h ≡ cell_at column row g

-- then the places beside them are all that there is to mend
abbrev pub WindowsMend : Type 0
WindowsMend = (g h : CellGrid) (y from to : ℕ) → AreMended g → IsWindow g h y from to → AreMendedBeside y from to h

-- so it is of a whole cell that is put, of the two cells of a wide character, and of columns that are erased
abbrev pub PutMends : Type 0
PutMends = (g : CellGrid) (x y : ℕ) (cell : Cell) → IsFull g → AreMended g → x < g.cols → y < g.rows → cell.half ≡ Whole → AreMendedBeside y x (x + 1) (put x y cell g)

abbrev pub PairMends : Type 0
PairMends = (g : CellGrid) (x y : ℕ) (cell : Cell) → IsFull g → AreMended g → x + 1 < g.cols → y < g.rows → AreMendedBeside y x (x + 2) (paired x y cell g)

abbrev pub ErasedMends : Type 0
ErasedMends = (g : CellGrid) (y from to : ℕ) → IsFull g → AreMended g → y < g.rows → from ≤ to → to ≤ g.cols → AreMendedBeside y from to (erased y from to g)

-- where one row became another, it alone can have halves without their other half
abbrev pub RowsMend : Type 0
RowsMend = (g h : CellGrid) (y : ℕ) → AreMendedBut y g → h.cols ≡ g.cols → h.rows ≡ g.rows
    → ((column row : ℕ) → column < g.cols → row < g.rows → (row ≡ y → ⊥) → cell_at column row h ≡ cell_at column row g) → AreMendedBut y h

-- so it is of cells that move within a row
abbrev pub MovedMend : Type 0
MovedMend = (g : CellGrid) (x y n : ℕ) → IsFull g → AreMended g → x < g.cols → y < g.rows → AreMendedBut y (inserted x y n g) × AreMendedBut y (deleted x y n g)

-- lines that move whole stay mended
abbrev pub ScrolledMend : Type 0
ScrolledMend = (g : CellGrid) (top bottom n : ℕ) → IsFull g → AreMended g → top ≤ bottom → bottom < g.rows
    → AreMended (scrolled_up top bottom n g) × AreMended (scrolled_down top bottom n g)

-- a whole cell may be put before or after all others are mended: it is no one's other half
abbrev pub PutsMend : Type 0
PutsMend = (g : CellGrid) (x y : ℕ) (cell : Cell) → IsFull g → x < g.cols → y < g.rows → cell.half ≡ Whole → mended (put x y cell (mended g)) ≡ mended (put x y cell g)
