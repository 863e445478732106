-- Rows that go and a part of a row that is erased, together.
use Rattle.std.proofs.Common.{◌≡◌, ℕ, ◌+◌, ◌-◌, ◌*◌, ◌<◌, ◌≤◌, List, ◌++◌, length, take, drop, replicate, refl, ap, sym, ◌∙◌, append_assoc, mul-le-mul_right, arith}
use Rattle.std.proofs.lemmas.Grind.{common_steps}
use Rattle.std.proofs.lemmas.List.{drop-drop, replicate-append-replicate}
use Rattle.std.proofs.Math.Seq.{drop-append-add, take-append_seam}
use Rattle.gate_model.specs.declared.cell.Cell.{Cell}
use Rattle.gate_model.specs.terminal.Cells.{CellGrid, blank, blank_grid, erased, moved_left, place, rows_of, scrolled_up, with_part}
use Rattle.gate_model.specs.terminal.CellLaws.{IsFull}
use Rattle.gate_model.specs.terminal.Editing.{blanked}
use Rattle.vt_screen.proofs.Ranges.{length-range, row_room}

-- ---- lists of cells

-- a run that moves by its length or more becomes blank
all_gone : (n : ℕ) (run : List Cell) → length run ≤ n → moved_left n run ≡ replicate (length run) blank
all_gone n run le = grind (arith, common_steps)

length-front : (from mid : ℕ) (cells : List Cell) → from ≤ mid → mid ≤ length cells → length (take from cells ++ replicate (mid - from) blank) ≡ mid
length-front from mid cells low le = grind (arith, common_steps)

length-blanked : (from to : ℕ) (cells : List Cell) → from ≤ to → to ≤ length cells → length (with_part from to (replicate (to - from) blank) cells) ≡ length cells
length-blanked from to cells order le = grind (arith, common_steps)

-- a part that takes the place of cells after a front
joined : (front run cells : List Cell) (mid to : ℕ) → length front ≡ mid → mid ≤ to → with_part mid to run (front ++ drop mid cells) ≡ front ++ run ++ drop to cells
joined front run cells mid to len le =
    let n : length front + (to - mid) ≡ to = omega (arith, len, le) in
    let m : mid + (to - mid) ≡ to = omega (arith, le) in
    let before : take mid (front ++ drop mid cells) ≡ front = ap (λ (k : ℕ). take k (front ++ drop mid cells)) (sym len) ∙ take-append_seam front (drop mid cells) in
    let behind : drop to (front ++ drop mid cells) ≡ drop to cells = ap (λ (k : ℕ). drop k (front ++ drop mid cells)) (sym n) ∙ drop-append-add front (drop mid cells) (to - mid) ∙ drop-drop (to - mid) mid cells ∙ ap (λ (k : ℕ). drop k cells) m in
    ap (λ (l : List Cell). l ++ run ++ drop to (front ++ drop mid cells)) before ∙ ap (λ (l : List Cell). front ++ run ++ l) behind

-- two parts that meet, blanked one after the other
two_parts : (from mid to : ℕ) (cells : List Cell) → from ≤ mid → mid ≤ to → to ≤ length cells
    → with_part mid to (replicate (to - mid) blank) (with_part from mid (replicate (mid - from) blank) cells) ≡ with_part from to (replicate (to - from) blank) cells
two_parts from mid to cells low high le =
    let sum : (mid - from) + (to - mid) ≡ to - from = omega arith in
    joined (take from cells ++ replicate (mid - from) blank) (replicate (to - mid) blank) cells mid to (length-front from mid cells low (omega arith)) high
    ∙ ap (λ (run : List Cell). run ++ drop to cells) (append_assoc (take from cells) (replicate (mid - from) blank) (replicate (to - mid) blank))
    ∙ ap (λ (run : List Cell). take from cells ++ run ++ drop to cells) (replicate-append-replicate (mid - from) (to - mid) blank ∙ ap (λ (n : ℕ). replicate n blank) sum)

-- all cells
whole_list : (n : ℕ) (cells : List Cell) → length cells ≡ n → with_part 0 n (replicate (n - 0) blank) cells ≡ replicate n blank
whole_list n cells len = grind (arith, common_steps)

-- ---- grids
-- all of some rows go
rows_gone : (top bottom n : ℕ) (g : CellGrid) → (bottom + 1) * g.cols + 0 ≤ length g.cells → bottom + 1 ≤ n → scrolled_up top bottom n g ≡ blanked (place 0 top g) (place 0 (bottom + 1) g) g
rows_gone top bottom n g le many =
    let len = length-range (place 0 top g) (place 0 (bottom + 1) g) g.cells le in
    let enough = mul-le-mul_right {m = bottom + 1} {n = n} g.cols many in
    ap (λ (run : List Cell). record g { cells = with_part (place 0 top g) (place 0 (bottom + 1) g) run g.cells })
    (all_gone (n * g.cols) (rows_of top bottom g) (omega (arith, len, enough)) ∙ ap (λ (k : ℕ). replicate k blank) len)

-- a part of a row that is erased, counted row by row
by_places : (y from to : ℕ) (g : CellGrid) → erased y from to g ≡ blanked (place from y g) (place to y g) g
by_places y from to g =
    let e : to - from ≡ place to y g - place from y g = omega arith in
    ap (λ (n : ℕ). record g { cells = with_part (place from y g) (place to y g) (replicate n blank) g.cells }) e

other_places : (from to a b : ℕ) (g : CellGrid) → from ≡ a → to ≡ b → blanked from to g ≡ blanked a b g
other_places from to a b g e f = ap (λ (k : ℕ). blanked k to g) e ∙ ap (λ (k : ℕ). blanked a k g) f

-- two parts that meet
meet : (from mid to : ℕ) (g : CellGrid) → from ≤ mid → mid ≤ to → to ≤ length g.cells → blanked mid to (blanked from mid g) ≡ blanked from to g
meet from mid to g low high le = ap (λ (cells : List Cell). record g { cells = cells }) (two_parts from mid to g.cells low high le)

-- the rows end at the last place
last_place : (g : CellGrid) → 0 < g.rows → place 0 (g.rows - 1 + 1) g ≡ g.rows * g.cols
last_place g some = let e : g.rows - 1 + 1 ≡ g.rows = omega (arith, some) in ap (λ (k : ℕ). k * g.cols + 0) e ∙ omega arith

-- the rest of a row and the rows below it, and the rows above a row and its front
after : (x y : ℕ) (g : CellGrid) → IsFull g → x < g.cols → y + 1 < g.rows
    → scrolled_up (y + 1) (g.rows - 1) g.rows (erased y x g.cols g) ≡ blanked (place x y g) (g.rows * g.cols) g
after x y g full column row =
    let mid = place g.cols y g in
    let near = row_room y g (omega (arith, row)) in
    let end = last_place g (omega (arith, row)) in
    let h = blanked (place x y g) mid g in
    let len : length h.cells ≡ length g.cells = length-blanked (place x y g) mid g.cells (omega (arith, column)) (omega (arith, near, full)) in
    let next : place 0 (y + 1) g ≡ mid = omega arith in
    ap (scrolled_up (y + 1) (g.rows - 1) g.rows) (by_places y x g.cols g)
    ∙ rows_gone (y + 1) (g.rows - 1) g.rows h (omega (arith, end, len, full)) (omega (arith, row))
    ∙ other_places (place 0 (y + 1) g) (place 0 (g.rows - 1 + 1) g) mid (g.rows * g.cols) h next end
    ∙ meet (place x y g) mid (g.rows * g.cols) g (omega (arith, column)) (omega (arith, near)) (omega (arith, full))

before : (x y : ℕ) (g : CellGrid) → IsFull g → x < g.cols → y < g.rows → 0 < y
    → erased y 0 (x + 1) (scrolled_up 0 (y - 1) g.rows g) ≡ blanked 0 (place x y g + 1) g
before x y g full column row below =
    let near = row_room y g row in
    let whole : y - 1 + 1 ≡ y = omega (arith, below) in
    let end : place 0 (y - 1 + 1) g ≡ place 0 y g = ap (λ (k : ℕ). k * g.cols + 0) whole in
    let start : place 0 0 g ≡ 0 = omega arith in
    ap (erased y 0 (x + 1)) (rows_gone 0 (y - 1) g.rows g (omega (arith, end, near, full)) (omega (arith, row, below)) ∙ other_places (place 0 0 g) (place 0 (y - 1 + 1) g) 0 (place 0 y g) g start end)
    ∙ by_places y 0 (x + 1) (blanked 0 (place 0 y g) g)
    ∙ other_places (place 0 y g) (place (x + 1) y g) (place 0 y g) (place x y g + 1) (blanked 0 (place 0 y g) g) refl (omega arith)
    ∙ meet 0 (place 0 y g) (place x y g + 1) g (omega arith) (omega arith) (omega (arith, near, full, column))

-- the same for the size that a screen keeps
pub erased_after : (columns rows x y : ℕ) (g : CellGrid) → columns ≡ g.cols → rows ≡ g.rows → IsFull g → x < g.cols → y + 1 < g.rows
    → scrolled_up (y + 1) (rows - 1) rows (erased y x columns g) ≡ blanked (place x y g) (g.rows * g.cols) g
erased_after columns rows x y g columns_is rows_is full column row =
    ap (λ (k : ℕ). scrolled_up (y + 1) (rows - 1) rows (erased y x k g)) columns_is ∙ ap (λ (k : ℕ). scrolled_up (y + 1) (k - 1) k (erased y x g.cols g)) rows_is ∙ after x y g full column row

pub erased_before : (rows x y : ℕ) (g : CellGrid) → rows ≡ g.rows → IsFull g → x < g.cols → y < g.rows → 0 < y
    → erased y 0 (x + 1) (scrolled_up 0 (y - 1) rows g) ≡ blanked 0 (place x y g + 1) g
erased_before rows x y g rows_is full column row below =
    ap (λ (k : ℕ). erased y 0 (x + 1) (scrolled_up 0 (y - 1) k g)) rows_is ∙ before x y g full column row below

-- the front of the first row
pub erased_first : (x y : ℕ) (g : CellGrid) → y ≡ 0 → erased y 0 (x + 1) g ≡ blanked 0 (place x y g + 1) g
erased_first x y g first =
    let e : y * g.cols ≡ 0 = ap (λ (k : ℕ). k * g.cols) first ∙ omega arith in
    by_places y 0 (x + 1) g ∙ other_places (place 0 y g) (place (x + 1) y g) 0 (place x y g + 1) g (omega (arith, e)) (omega arith)

-- all rows
pub erased_whole : (rows : ℕ) (g : CellGrid) → rows ≡ g.rows → IsFull g → 0 < g.rows → scrolled_up 0 (rows - 1) rows g ≡ blank_grid g.cols g.rows
erased_whole rows g rows_is full some =
    let end = last_place g some in
    let start : place 0 0 g ≡ 0 = omega arith in
    ap (λ (k : ℕ). scrolled_up 0 (k - 1) k g) rows_is
    ∙ rows_gone 0 (g.rows - 1) g.rows g (omega (arith, end, full)) (omega (arith, some))
    ∙ other_places (place 0 0 g) (place 0 (g.rows - 1 + 1) g) 0 (g.rows * g.cols) g start end
    ∙ ap (λ (cells : List Cell). record g { cells = cells }) (whole_list (g.rows * g.cols) g.cells full)
