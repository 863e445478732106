-- What holds of a blank cell and of every cell of a grid holds of all of them after each edit.
use Rattle.std.proofs.Common.{ℕ, zero, suc, ◌+◌, ◌-◌, ◌*◌, List, [], ◌∷◌, ◌++◌, Bool, true, false, length, take, drop, get_or, replicate, arith}
use Rattle.std.specs.List.{range_with_len}
use Rattle.std.specs.Prelude.{◌/◌, ◌%◌, ◌&&◌, All, min, nat_lt, if◌then◌else◌}
use Rattle.std.proofs.lemmas.List.Elements.{All-set, All-append, All-drop, All-take, All-replicate, All-map}
use Rattle.gate_model.specs.declared.cell.Cell.{Cell}
use Rattle.gate_model.specs.terminal.Cells.{CellGrid, blank, with_part, place, put, cell_at, kept_at, rows_of, rest_of_row, moved_left, moved_right, erased, inserted, deleted, scrolled_up, scrolled_down, resized, is_mended, spaced, mended_cell, mended}

module _ (P : Cell → Type 0) (of_blank : P blank) where
  pub blanks_kept : (n : ℕ) → All P (replicate n blank)
  blanks_kept n = All-replicate P n blank of_blank

  pub cell_kept : (cells : List Cell) (k : ℕ) → All P cells → P (get_or cells k blank)
  cell_kept [] k all = of_blank
  cell_kept (x ∷ xs) zero all = all zero blank (omega arith)
  cell_kept (x ∷ xs) (suc k) all = cell_kept xs k (λ i d lt. all (suc i) d (omega (arith, lt)))

  pub part_kept : (from to : ℕ) (run cells : List Cell) → All P run → All P cells → All P (with_part from to run cells)
  part_kept from to run cells new all = All-append P (take from cells ++ run) (drop to cells) (All-append P (take from cells) run (All-take P from cells all) new) (All-drop P to cells all)

  pub left_kept : (n : ℕ) (run : List Cell) → All P run → All P (moved_left n run)
  left_kept n run all = All-append P (drop n run) (replicate (min n (length run)) blank) (All-drop P n run all) (blanks_kept (min n (length run)))

  pub right_kept : (n : ℕ) (run : List Cell) → All P run → All P (moved_right n run)
  right_kept n run all = All-append P (replicate (min n (length run)) blank) (take (length run - n) run) (blanks_kept (min n (length run))) (All-take P (length run - n) run all)

  pub range_kept : (from to : ℕ) (cells : List Cell) → All P cells → All P (take (to - from) (drop from cells))
  range_kept from to cells all = All-take P (to - from) (drop from cells) (All-drop P from cells all)

  pub put_kept : (x y : ℕ) (cell : Cell) (g : CellGrid) → P cell → All P g.cells → All P (put x y cell g).cells
  put_kept x y cell g new all = All-set P g.cells (place x y g) cell new all

  pub erased_kept : (y from to : ℕ) (g : CellGrid) → All P g.cells → All P (erased y from to g).cells
  erased_kept y from to g all = part_kept (place from y g) (place to y g) (replicate (to - from) blank) g.cells (blanks_kept (to - from)) all

  pub inserted_kept : (x y n : ℕ) (g : CellGrid) → All P g.cells → All P (inserted x y n g).cells
  inserted_kept x y n g all = part_kept (place x y g) (place g.cols y g) (moved_right n (rest_of_row x y g)) g.cells (right_kept n (rest_of_row x y g) (range_kept (place x y g) (place g.cols y g) g.cells all)) all

  pub deleted_kept : (x y n : ℕ) (g : CellGrid) → All P g.cells → All P (deleted x y n g).cells
  deleted_kept x y n g all = part_kept (place x y g) (place g.cols y g) (moved_left n (rest_of_row x y g)) g.cells (left_kept n (rest_of_row x y g) (range_kept (place x y g) (place g.cols y g) g.cells all)) all

  pub up_kept : (top bottom n : ℕ) (g : CellGrid) → All P g.cells → All P (scrolled_up top bottom n g).cells
  up_kept top bottom n g all =
      part_kept (place 0 top g) (place 0 (bottom + 1) g) (moved_left (n * g.cols) (rows_of top bottom g)) g.cells
      (left_kept (n * g.cols) (rows_of top bottom g) (range_kept (place 0 top g) (place 0 (bottom + 1) g) g.cells all)) all

  pub down_kept : (top bottom n : ℕ) (g : CellGrid) → All P g.cells → All P (scrolled_down top bottom n g).cells
  down_kept top bottom n g all =
      part_kept (place 0 top g) (place 0 (bottom + 1) g) (moved_right (n * g.cols) (rows_of top bottom g)) g.cells
      (right_kept (n * g.cols) (rows_of top bottom g) (range_kept (place 0 top g) (place 0 (bottom + 1) g) g.cells all)) all

  kept_kept : (x y : ℕ) (g : CellGrid) → All P g.cells → P (kept_at x y g)
  kept_kept x y g all = pick (nat_lt x g.cols && nat_lt y g.rows)
    where
      pick : (b : Bool) → P (if b then cell_at x y g else blank)
      pick true = cell_kept g.cells (place x y g) all
      pick false = of_blank

  pub resized_kept : (cols rows : ℕ) (g : CellGrid) → All P g.cells → All P (resized cols rows g).cells
  resized_kept cols rows g all = All-map P (λ at. kept_at (at % cols) (at / cols) g) (range_with_len 0 (rows * cols)) (λ i d lt. let at = get_or (range_with_len 0 (rows * cols)) i d in kept_kept (at % cols) (at / cols) g all)

  pub mended_kept : ((cell : Cell) → P cell → P (spaced cell)) → (g : CellGrid) → All P g.cells → All P (mended g).cells
  mended_kept of_space g all = All-map P (λ at. mended_cell (at % g.cols) (at / g.cols) g) (range_with_len 0 (g.rows * g.cols)) (λ i d lt.
      let at = get_or (range_with_len 0 (g.rows * g.cols)) i d in
      pick (is_mended (at % g.cols) (at / g.cols) g) (cell_at (at % g.cols) (at / g.cols) g) (cell_kept g.cells (place (at % g.cols) (at / g.cols) g) all))
    where
      pick : (b : Bool) (cell : Cell) → P cell → P (if b then cell else spaced cell)
      pick true cell is = is
      pick false cell is = of_space cell is
