-- What each edit of a grid leaves at each place.
use Rattle.std.proofs.Common.{◌≡◌, ℕ, suc, ◌+◌, ◌-◌, ◌*◌, ◌<◌, ◌≤◌, List, length, Bool, true, false, ◌&&◌, ◌==◌, if◌then◌else◌, nat_le, nat_lt, get_or, replicate, refl, ap, ◌∙◌, arith}
use Rattle.std.specs.Prelude.{slice_range, ◌/◌, ◌%◌}
use Rattle.std.proofs.lemmas.Bool.Decides.{nat_tests}
use Rattle.std.proofs.lemmas.Grind.{get_or-set_at}
use Rattle.std.proofs.lemmas.List.{get_or-replicate, length-replicate, get_or-set_other}
use Rattle.std.proofs.Math.Nat.{mul-le-mul_right}
use Rattle.std.proofs.Math.ListN.{length-set}
use Rattle.gate_model.specs.declared.cell.Cell.{Cell}
use Rattle.std.proofs.lemmas.List.FromFn.{get_or-map-range_with_len, length-map-range_with_len}
use Rattle.std.proofs.lemmas.Nat.{div-mul-add, mod-mul-add, mul-add-lt}
use Rattle.gate_model.specs.terminal.Cells.{blank, CellGrid, cell_at, kept_at, moved_left, moved_right, put, erased, inserted, deleted, scrolled_up, scrolled_down}
use Rattle.gate_model.proofs.CellRuns.{at_inside, at_outside, length-with_part, left_length, right_length, left_cell, left_free, right_cell, right_free, left_stays, right_stays}
use Rattle.gate_model.specs.terminal.CellLaws.{IsFull, PutByCell, ErasedByCell, InsertedByCell, DeletedByCell, ScrolledUpByCell, ScrolledDownByCell, NothingAtZero, ResizedByCell}

-- ---- rows
rows_apart : (c row y : ℕ) → row < y → row * c + c ≤ y * c
rows_apart c row y lt = omega (arith, mul-le-mul_right {m = suc row} {n = y} c lt)

-- a place in no column of row y from `from` up to `to` is before or behind them
beside : (c y from to column row : ℕ) → column < c → from ≤ c → to ≤ c → (row == y && (nat_le from column && nat_lt column to)) ≡ false → y * c + from ≤ row * c + column → y * c + to ≤ row * c + column
beside c y from to column row lt f t e le = grind (arith, nat_tests, rows_apart c row y, rows_apart c y row)

beside_rest : (c y x column row : ℕ) → column < c → (row == y && nat_le x column) ≡ false → y * c + x ≤ row * c + column → y * c + c ≤ row * c + column
beside_rest c y x column row lt e le = grind (arith, nat_tests, rows_apart c row y, rows_apart c y row)

beside_rows : (c top bottom column row : ℕ) → column < c → (nat_le top row && nat_le row bottom) ≡ false → top * c + 0 ≤ row * c + column → (bottom + 1) * c + 0 ≤ row * c + column
beside_rows c top bottom column row lt e le = grind (arith, nat_tests, rows_apart c row top, rows_apart c bottom row)

within_row : (y from to column row : ℕ) → (row == y && (nat_le from column && nat_lt column to)) ≡ true → (row ≡ y) × ((from ≤ column) × (column < to))
within_row y from to column row e = (grind (arith, nat_tests), (grind (arith, nat_tests), grind (arith, nat_tests)))

within_rest : (y x column row : ℕ) → (row == y && nat_le x column) ≡ true → (row ≡ y) × (x ≤ column)
within_rest y x column row e = (grind (arith, nat_tests), grind (arith, nat_tests))

within_rows : (top bottom row : ℕ) → (nat_le top row && nat_le row bottom) ≡ true → (top ≤ row) × (row ≤ bottom)
within_rows top bottom row e = (grind (arith, nat_tests), grind (arith, nat_tests))

from_lt : (a b : ℕ) → nat_lt a b ≡ true → a < b
from_lt a b e = grind (arith, nat_tests)

from_not_lt : (a b : ℕ) → nat_lt a b ≡ false → b ≤ a
from_not_lt a b e = grind (arith, nat_tests)

-- the place of a cell that stands `n` rows further down
rows_below : (c column row n : ℕ) → (row * c + column) + n * c ≡ (row + n) * c + column
rows_below c column row n = omega arith

-- the place of a cell that stands `n` rows further up
rows_above : (c column row n : ℕ) → n ≤ row → (row * c + column) - n * c ≡ (row - n) * c + column
rows_above c column row n le = let e : (row - n) + n ≡ row = omega arith in omega (arith, rows_below c column (row - n) n, ap (λ (k : ℕ). k * c) e)

from_le : (a b : ℕ) → nat_le a b ≡ true → a ≤ b
from_le a b e = grind (arith, nat_tests)

from_not_le : (a b : ℕ) → nat_le a b ≡ false → b < a
from_not_le a b e = grind (arith, nat_tests)

same_place : (y x column row : ℕ) → (row == y && column == x) ≡ true → (row ≡ y) × (column ≡ x)
same_place y x column row e = (grind (arith, nat_tests), grind (arith, nat_tests))

other_place : (c y x column row : ℕ) → column < c → x < c → (row == y && column == x) ≡ false → row * c + column ≡ y * c + x → ⊥
other_place c y x column row lt xlt e same = grind (arith, nat_tests, rows_apart c row y, rows_apart c y row)

ordered : (c row y : ℕ) → row ≤ y → row * c ≤ y * c
ordered c row y le = mul-le-mul_right {m = row} {n = y} c le

-- the rows down to one of the grid end within its cells
above_end : (g : CellGrid) (bottom : ℕ) → IsFull g → bottom < g.rows → (bottom + 1) * g.cols + 0 ≤ length g.cells
above_end g bottom full lt = let le = ordered g.cols (bottom + 1) g.rows (omega (arith, lt)) in omega (arith, le, full)

-- ---- each edit, at one place
erased-cell : (b : Bool) (g : CellGrid) (y from to column row : ℕ) → (row == y && (nat_le from column && nat_lt column to)) ≡ b → IsFull g → y < g.rows → from ≤ to → to ≤ g.cols → column < g.cols
    → cell_at column row (erased y from to g) ≡ (if b then blank else cell_at column row g)
erased-cell true g y from to column row e full lt order high in_cols =
    let w = within_row y from to column row e in
    let same : row * g.cols ≡ y * g.cols = ap (λ (k : ℕ). k * g.cols) w.0 in
    let room = rows_apart g.cols y g.rows lt in
    let run : List Cell = replicate (to - from) blank in
    let len : length run ≡ to - from = length-replicate (to - from) blank in
    at_inside (y * g.cols + from) (y * g.cols + to) (row * g.cols + column) run g.cells (omega (arith, room, full)) (omega (arith, same, w.1.0)) (omega (arith, same, len, w.1.1, w.1.0))
    ∙ get_or-replicate (to - from) (row * g.cols + column - (y * g.cols + from)) blank blank (omega (arith, same, w.1.0, w.1.1))
erased-cell false g y from to column row e full lt order high in_cols =
    let room = rows_apart g.cols y g.rows lt in
    let len : length (replicate (to - from) blank) ≡ to - from = length-replicate (to - from) blank in
    at_outside (nat_lt (row * g.cols + column) (y * g.cols + from)) (y * g.cols + from) (y * g.cols + to) (row * g.cols + column) (replicate (to - from) blank) g.cells refl (omega (arith, room, full)) (omega arith) (omega (arith, len)) (beside g.cols y from to column row in_cols (omega arith) high e)

inserted-cell : (b d : Bool) (g : CellGrid) (x y n column row : ℕ) → (row == y && nat_le x column) ≡ b → nat_lt column (x + n) ≡ d → IsFull g → x < g.cols → y < g.rows → column < g.cols
    → cell_at column row (inserted x y n g) ≡ (if b then (if d then blank else cell_at (column - n) row g) else cell_at column row g)
inserted-cell true true g x y n column row e f full xlt lt in_cols =
    let w = within_rest y x column row e in
    let same : row * g.cols ≡ y * g.cols = ap (λ (k : ℕ). k * g.cols) w.0 in
    let room = rows_apart g.cols y g.rows lt in
    right_free (y * g.cols + x) (y * g.cols + g.cols) n (row * g.cols + column) g.cells (omega (arith, room, full)) (omega (arith, same, w.1)) (omega (arith, same)) (omega (arith, same, from_lt column (x + n) f))
inserted-cell true false g x y n column row e f full xlt lt in_cols =
    let w = within_rest y x column row e in
    let same : row * g.cols ≡ y * g.cols = ap (λ (k : ℕ). k * g.cols) w.0 in
    let room = rows_apart g.cols y g.rows lt in
    let far = from_not_lt column (x + n) f in
    let e : row * g.cols + column - n ≡ row * g.cols + (column - n) = omega (arith, far) in
    right_cell (y * g.cols + x) (y * g.cols + g.cols) n (row * g.cols + column) g.cells (omega (arith, room, full)) (omega (arith, same, far)) (omega (arith, same))
    ∙ ap (λ (k : ℕ). get_or g.cells k blank) e
inserted-cell false d g x y n column row e f full xlt lt in_cols =
    let room = rows_apart g.cols y g.rows lt in
    let high : y * g.cols + g.cols ≤ length g.cells = omega (arith, room, full) in
    at_outside (nat_lt (row * g.cols + column) (y * g.cols + x)) (y * g.cols + x) (y * g.cols + g.cols) (row * g.cols + column) (moved_right n (slice_range g.cells (y * g.cols + x) (y * g.cols + g.cols))) g.cells refl (omega (arith, high)) (omega arith) (right_length (y * g.cols + x) (y * g.cols + g.cols) n g.cells high) (beside_rest g.cols y x column row in_cols e)

deleted-cell : (b d : Bool) (g : CellGrid) (x y n column row : ℕ) → (row == y && nat_le x column) ≡ b → nat_lt (column + n) g.cols ≡ d → IsFull g → x < g.cols → y < g.rows → column < g.cols
    → cell_at column row (deleted x y n g) ≡ (if b then (if d then cell_at (column + n) row g else blank) else cell_at column row g)
deleted-cell true true g x y n column row e f full xlt lt in_cols =
    let w = within_rest y x column row e in
    let same : row * g.cols ≡ y * g.cols = ap (λ (k : ℕ). k * g.cols) w.0 in
    let room = rows_apart g.cols y g.rows lt in
    let e : row * g.cols + column + n ≡ row * g.cols + (column + n) = omega arith in
    left_cell (y * g.cols + x) (y * g.cols + g.cols) n (row * g.cols + column) g.cells (omega (arith, room, full)) (omega (arith, same, w.1)) (omega (arith, same, from_lt (column + n) g.cols f))
    ∙ ap (λ (k : ℕ). get_or g.cells k blank) e
deleted-cell true false g x y n column row e f full xlt lt in_cols =
    let w = within_rest y x column row e in
    let same : row * g.cols ≡ y * g.cols = ap (λ (k : ℕ). k * g.cols) w.0 in
    let room = rows_apart g.cols y g.rows lt in
    left_free (y * g.cols + x) (y * g.cols + g.cols) n (row * g.cols + column) g.cells (omega (arith, room, full)) (omega (arith, same, w.1)) (omega (arith, same)) (omega (arith, same, from_not_lt (column + n) g.cols f))
deleted-cell false d g x y n column row e f full xlt lt in_cols =
    let room = rows_apart g.cols y g.rows lt in
    let high : y * g.cols + g.cols ≤ length g.cells = omega (arith, room, full) in
    at_outside (nat_lt (row * g.cols + column) (y * g.cols + x)) (y * g.cols + x) (y * g.cols + g.cols) (row * g.cols + column) (moved_left n (slice_range g.cells (y * g.cols + x) (y * g.cols + g.cols))) g.cells refl (omega (arith, high)) (omega arith) (left_length (y * g.cols + x) (y * g.cols + g.cols) n g.cells high) (beside_rest g.cols y x column row in_cols e)

scrolled_up-cell : (b d : Bool) (g : CellGrid) (top bottom n column row : ℕ) → (nat_le top row && nat_le row bottom) ≡ b → nat_le (row + n) bottom ≡ d → IsFull g → top ≤ bottom → bottom < g.rows → column < g.cols
    → cell_at column row (scrolled_up top bottom n g) ≡ (if b then (if d then cell_at column (row + n) g else blank) else cell_at column row g)
scrolled_up-cell true true g top bottom n column row e f full order lt in_cols =
    let w = within_rows top bottom row e in
    let from = ordered g.cols top row w.0 in
    let near = rows_apart g.cols (row + n) (bottom + 1) (omega (arith, from_le (row + n) bottom f)) in
    let below = rows_below g.cols column row n in
    left_cell (top * g.cols + 0) ((bottom + 1) * g.cols + 0) (n * g.cols) (row * g.cols + column) g.cells (above_end g bottom full lt) (omega (arith, from)) (omega (arith, near, below))
    ∙ ap (λ (k : ℕ). get_or g.cells k blank) below
scrolled_up-cell true false g top bottom n column row e f full order lt in_cols =
    let w = within_rows top bottom row e in
    let from = ordered g.cols top row w.0 in
    let inside = rows_apart g.cols row (bottom + 1) (omega (arith, w.1)) in
    let far = ordered g.cols (bottom + 1) (row + n) (omega (arith, from_not_le (row + n) bottom f)) in
    let below = rows_below g.cols column row n in
    left_free (top * g.cols + 0) ((bottom + 1) * g.cols + 0) (n * g.cols) (row * g.cols + column) g.cells (above_end g bottom full lt) (omega (arith, from)) (omega (arith, inside)) (omega (arith, far, below))
scrolled_up-cell false d g top bottom n column row e f full order lt in_cols =
    let high = above_end g bottom full lt in
    let rise = ordered g.cols top (bottom + 1) (omega arith) in
    at_outside (nat_lt (row * g.cols + column) (top * g.cols + 0)) (top * g.cols + 0) ((bottom + 1) * g.cols + 0) (row * g.cols + column) (moved_left (n * g.cols) (slice_range g.cells (top * g.cols + 0) ((bottom + 1) * g.cols + 0))) g.cells refl (omega (arith, high, rise)) (omega (arith, rise)) (left_length (top * g.cols + 0) ((bottom + 1) * g.cols + 0) (n * g.cols) g.cells high) (beside_rows g.cols top bottom column row in_cols e)

scrolled_down-cell : (b d : Bool) (g : CellGrid) (top bottom n column row : ℕ) → (nat_le top row && nat_le row bottom) ≡ b → nat_le (top + n) row ≡ d → IsFull g → top ≤ bottom → bottom < g.rows → column < g.cols
    → cell_at column row (scrolled_down top bottom n g) ≡ (if b then (if d then cell_at column (row - n) g else blank) else cell_at column row g)
scrolled_down-cell true true g top bottom n column row e f full order lt in_cols =
    let w = within_rows top bottom row e in
    let low = from_le (top + n) row f in
    let from = ordered g.cols (top + n) row low in
    let sum = rows_below g.cols 0 top n in
    let inside = rows_apart g.cols row (bottom + 1) (omega (arith, w.1)) in
    right_cell (top * g.cols + 0) ((bottom + 1) * g.cols + 0) (n * g.cols) (row * g.cols + column) g.cells (above_end g bottom full lt) (omega (arith, from, sum)) (omega (arith, inside))
    ∙ ap (λ (k : ℕ). get_or g.cells k blank) (rows_above g.cols column row n (omega (arith, low)))
scrolled_down-cell true false g top bottom n column row e f full order lt in_cols =
    let w = within_rows top bottom row e in
    let from = ordered g.cols top row w.0 in
    let inside = rows_apart g.cols row (bottom + 1) (omega (arith, w.1)) in
    let near = rows_apart g.cols row (top + n) (from_not_le (top + n) row f) in
    let sum = rows_below g.cols 0 top n in
    right_free (top * g.cols + 0) ((bottom + 1) * g.cols + 0) (n * g.cols) (row * g.cols + column) g.cells (above_end g bottom full lt) (omega (arith, from)) (omega (arith, inside)) (omega (arith, near, sum))
scrolled_down-cell false d g top bottom n column row e f full order lt in_cols =
    let high = above_end g bottom full lt in
    let rise = ordered g.cols top (bottom + 1) (omega arith) in
    at_outside (nat_lt (row * g.cols + column) (top * g.cols + 0)) (top * g.cols + 0) ((bottom + 1) * g.cols + 0) (row * g.cols + column) (moved_right (n * g.cols) (slice_range g.cells (top * g.cols + 0) ((bottom + 1) * g.cols + 0))) g.cells refl (omega (arith, high, rise)) (omega (arith, rise)) (right_length (top * g.cols + 0) ((bottom + 1) * g.cols + 0) (n * g.cols) g.cells high) (beside_rows g.cols top bottom column row in_cols e)

put-cell : (b : Bool) (g : CellGrid) (x y : ℕ) (cell : Cell) (column row : ℕ) → (row == y && column == x) ≡ b → IsFull g → x < g.cols → y < g.rows → column < g.cols
    → cell_at column row (put x y cell g) ≡ (if b then cell else cell_at column row g)
put-cell true g x y cell column row e full xlt lt in_cols =
    let w = same_place y x column row e in
    let same : row * g.cols ≡ y * g.cols = ap (λ (k : ℕ). k * g.cols) w.0 in
    get_or-set_at g.cells (y * g.cols + x) (row * g.cols + column) cell blank (omega (arith, same, w.1)) (omega (arith, full, rows_apart g.cols y g.rows lt))
put-cell false g x y cell column row e full xlt lt in_cols =
    get_or-set_other g.cells (y * g.cols + x) (row * g.cols + column) cell blank (λ same. other_place g.cols y x column row in_cols xlt e same)

-- ---- the laws
pub put-by_cell : PutByCell
put-by_cell g x y cell full xlt lt = record {
  cols = refl;
  rows = refl;
  full = length-set g.cells (y * g.cols + x) cell ∙ full;
  cells = λ column row in_cols in_rows. put-cell (row == y && column == x) g x y cell column row refl full xlt lt in_cols;
}

pub erased-by_cell : ErasedByCell
erased-by_cell g y from to full lt order high =
    let room = rows_apart g.cols y g.rows lt in
    let len : length (replicate (to - from) blank) ≡ to - from = length-replicate (to - from) blank in
    record {
      cols = refl;
      rows = refl;
      full = length-with_part (y * g.cols + from) (y * g.cols + to) (replicate (to - from) blank) g.cells (omega arith) (omega (arith, room, full)) (omega (arith, len)) ∙ full;
      cells = λ column row in_cols in_rows. erased-cell (row == y && (nat_le from column && nat_lt column to)) g y from to column row refl full lt order high in_cols;
    }

pub inserted-by_cell : InsertedByCell
inserted-by_cell g x y n full xlt lt =
    let room = rows_apart g.cols y g.rows lt in
    let high : y * g.cols + g.cols ≤ length g.cells = omega (arith, room, full) in
    record {
      cols = refl;
      rows = refl;
      full = length-with_part (y * g.cols + x) (y * g.cols + g.cols) (moved_right n (slice_range g.cells (y * g.cols + x) (y * g.cols + g.cols))) g.cells (omega arith) high (right_length (y * g.cols + x) (y * g.cols + g.cols) n g.cells high) ∙ full;
      cells = λ column row in_cols in_rows. inserted-cell (row == y && nat_le x column) (nat_lt column (x + n)) g x y n column row refl refl full xlt lt in_cols;
    }

pub deleted-by_cell : DeletedByCell
deleted-by_cell g x y n full xlt lt =
    let room = rows_apart g.cols y g.rows lt in
    let high : y * g.cols + g.cols ≤ length g.cells = omega (arith, room, full) in
    record {
      cols = refl;
      rows = refl;
      full = length-with_part (y * g.cols + x) (y * g.cols + g.cols) (moved_left n (slice_range g.cells (y * g.cols + x) (y * g.cols + g.cols))) g.cells (omega arith) high (left_length (y * g.cols + x) (y * g.cols + g.cols) n g.cells high) ∙ full;
      cells = λ column row in_cols in_rows. deleted-cell (row == y && nat_le x column) (nat_lt (column + n) g.cols) g x y n column row refl refl full xlt lt in_cols;
    }

pub scrolled_up-by_cell : ScrolledUpByCell
scrolled_up-by_cell g top bottom n full order lt =
    let high = above_end g bottom full lt in
    let rise = ordered g.cols top (bottom + 1) (omega arith) in
    record {
      cols = refl;
      rows = refl;
      full = length-with_part (top * g.cols + 0) ((bottom + 1) * g.cols + 0) (moved_left (n * g.cols) (slice_range g.cells (top * g.cols + 0) ((bottom + 1) * g.cols + 0))) g.cells (omega (arith, rise)) high (left_length (top * g.cols + 0) ((bottom + 1) * g.cols + 0) (n * g.cols) g.cells high) ∙ full;
      cells = λ column row in_cols in_rows. scrolled_up-cell (nat_le top row && nat_le row bottom) (nat_le (row + n) bottom) g top bottom n column row refl refl full order lt in_cols;
    }

pub scrolled_down-by_cell : ScrolledDownByCell
scrolled_down-by_cell g top bottom n full order lt =
    let high = above_end g bottom full lt in
    let rise = ordered g.cols top (bottom + 1) (omega arith) in
    record {
      cols = refl;
      rows = refl;
      full = length-with_part (top * g.cols + 0) ((bottom + 1) * g.cols + 0) (moved_right (n * g.cols) (slice_range g.cells (top * g.cols + 0) ((bottom + 1) * g.cols + 0))) g.cells (omega (arith, rise)) high (right_length (top * g.cols + 0) ((bottom + 1) * g.cols + 0) (n * g.cols) g.cells high) ∙ full;
      cells = λ column row in_cols in_rows. scrolled_down-cell (nat_le top row && nat_le row bottom) (nat_le (top + n) row) g top bottom n column row refl refl full order lt in_cols;
    }

with_cells : (g : CellGrid) (cells : List Cell) → cells ≡ g.cells → record g { cells = cells } ≡ g
with_cells g cells e = ap (λ (l : List Cell). record g { cells = l }) e

pub nothing_at_zero : NothingAtZero
nothing_at_zero g = record {
  insert = λ x y le. with_cells g _ (right_stays (y * g.cols + x) (y * g.cols + g.cols) 0 g.cells (omega (arith, le)) refl);
  delete = λ x y le. with_cells g _ (left_stays (y * g.cols + x) (y * g.cols + g.cols) 0 g.cells (omega (arith, le)) refl);
  up = λ top bottom le. with_cells g _ (left_stays (top * g.cols + 0) ((bottom + 1) * g.cols + 0) (0 * g.cols) g.cells (omega (arith, ordered g.cols top (bottom + 1) (omega (arith, le)))) (omega arith));
  down = λ top bottom le. with_cells g _ (right_stays (top * g.cols + 0) ((bottom + 1) * g.cols + 0) (0 * g.cols) g.cells (omega (arith, ordered g.cols top (bottom + 1) (omega (arith, le)))) (omega arith));
}

-- ---- another size

pub resized-by_cell : ResizedByCell
resized-by_cell g cols rows = record {
  cols = refl;
  rows = refl;
  full = length-map-range_with_len (λ at. kept_at (at % cols) (at / cols) g) 0 (rows * cols);
  cells = λ column row in_cols in_rows.
      get_or-map-range_with_len (λ at. kept_at (at % cols) (at / cols) g) 0 (rows * cols) (row * cols + column) (row * cols + column) blank (omega (arith, mul-add-lt row cols column rows in_rows in_cols)) (omega arith)
      ∙ ap (λ x. kept_at x ((row * cols + column) / cols) g) (mod-mul-add row cols column in_cols)
      ∙ ap (λ y. kept_at column y g) (div-mul-add row cols column in_cols);
}
