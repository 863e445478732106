-- Laws of the edits of a grid, cell by cell, which public functions of `laws::cells` prove.
use Rattle.std.specs.Prelude.{◌≡◌, ◌<◌, ◌≤◌, ℕ, ◌+◌, ◌-◌, ◌*◌, ◌==◌, ◌&&◌, nat_lt, nat_le, if◌then◌else◌, length}
use Rattle.gate_model.specs.declared.cell.Cell.{Cell}
use Rattle.gate_model.specs.terminal.Cells.{blank, CellGrid, cell_at, kept_at, put, erased, inserted, deleted, scrolled_up, scrolled_down, resized}

-- there is a cell for each place
abbrev pub IsFull : CellGrid → Type 0
IsFull g = length g.cells ≡ g.rows * g.cols

-- the size stays, and the cell of each place is the one that is told for its column and its row
pub record Becomes (g edited : CellGrid) (told : ℕ → ℕ → Cell) : Type 0 where
  pub cols : edited.cols ≡ g.cols
  pub rows : edited.rows ≡ g.rows
  pub full : IsFull edited
  pub cells : (column row : ℕ) → column < g.cols → row < g.rows → cell_at column row edited ≡ told column row

-- one cell becomes another, and every other stays
abbrev pub PutByCell : Type 0
PutByCell = (g : CellGrid) (x y : ℕ) (cell : Cell) → IsFull g → x < g.cols → y < g.rows →
    Becomes g (put x y cell g) (λ column row. if row == y && column == x then cell else cell_at column row g)

-- the named columns of row y become blank, and every other cell stays
abbrev pub ErasedByCell : Type 0
ErasedByCell = (g : CellGrid) (y from to : ℕ) → IsFull g → y < g.rows → from ≤ to → to ≤ g.cols →
    Becomes g (erased y from to g) (λ column row. if row == y && (nat_le from column && nat_lt column to) then blank else cell_at column row g)

-- from column x on, row y has n blanks and then what stood n columns to the left
abbrev pub InsertedByCell : Type 0
InsertedByCell = (g : CellGrid) (x y n : ℕ) → IsFull g → x < g.cols → y < g.rows →
    Becomes g (inserted x y n g) (λ column row. if row == y && nat_le x column then (if nat_lt column (x + n) then blank else cell_at (column - n) row g) else cell_at column row g)

-- from column x on, row y has what stood n columns to the right, and then blanks
abbrev pub DeletedByCell : Type 0
DeletedByCell = (g : CellGrid) (x y n : ℕ) → IsFull g → x < g.cols → y < g.rows →
    Becomes g (deleted x y n g) (λ column row. if row == y && nat_le x column then (if nat_lt (column + n) g.cols then cell_at (column + n) row g else blank) else cell_at column row g)

-- a row between the margins becomes the one n below it, or blank where that is past the bottom margin
abbrev pub ScrolledUpByCell : Type 0
ScrolledUpByCell = (g : CellGrid) (top bottom n : ℕ) → IsFull g → top ≤ bottom → bottom < g.rows →
    Becomes g (scrolled_up top bottom n g) (λ column row. if nat_le top row && nat_le row bottom then (if nat_le (row + n) bottom then cell_at column (row + n) g else blank) else cell_at column row g)

-- a row between the margins becomes the one n above it, or blank where that is past the top margin
abbrev pub ScrolledDownByCell : Type 0
ScrolledDownByCell = (g : CellGrid) (top bottom n : ℕ) → IsFull g → top ≤ bottom → bottom < g.rows →
    Becomes g (scrolled_down top bottom n g) (λ column row. if nat_le top row && nat_le row bottom then (if nat_le (top + n) row then cell_at column (row - n) g else blank) else cell_at column row g)

-- a move by 0 changes nothing
pub record StaysAtZero (g : CellGrid) : Type 0 where
  pub insert : (x y : ℕ) → x ≤ g.cols → inserted x y 0 g ≡ g
  pub delete : (x y : ℕ) → x ≤ g.cols → deleted x y 0 g ≡ g
  pub up : (top bottom : ℕ) → top ≤ bottom → scrolled_up top bottom 0 g ≡ g
  pub down : (top bottom : ℕ) → top ≤ bottom → scrolled_down top bottom 0 g ≡ g

abbrev pub NothingAtZero : Type 0
NothingAtZero = (g : CellGrid) → StaysAtZero g

-- a grid of another size has a cell for each of its places: the one that stood there, or blank where none did
pub record Refits (g edited : CellGrid) (columns lines : ℕ) : Type 0 where
  pub cols : edited.cols ≡ columns
  pub rows : edited.rows ≡ lines
  pub full : IsFull edited
  pub cells : (column row : ℕ) → column < columns → row < lines → cell_at column row edited ≡ kept_at column row g

abbrev pub ResizedByCell : Type 0
ResizedByCell = (g : CellGrid) (cols rows : ℕ) → Refits g (resized cols rows g) cols rows
