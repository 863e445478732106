-- Halves that are without their other half, mended one place after another and all at once.
use Rattle.std.proofs.Common.{◌≡◌, ℕ, zero, suc, ◌+◌, ◌-◌, ◌*◌, ◌<◌, ◌≤◌, List, length, Bool, true, false, ◌⊎◌, inl, inr, get_or, refl, ap, sym, ◌∙◌, subst, arith, ⊎_elim}
use Rattle.std.specs.Prelude.{◌/◌, ◌%◌, ◌&&◌, ◌==◌, nat_le, nat_lt, if◌then◌else◌}
use Rattle.std.proofs.lemmas.Bool.{cases_Bool, lt-ltb, eq-eqb}
use Rattle.std.proofs.lemmas.Bool.Decides.{nat_tests, eqb_tells}
use Rattle.std.proofs.lemmas.List.{ext_get_or, set-get_or}
use Rattle.std.proofs.lemmas.List.FromFn.{get_or-map-range_with_len, length-map-range_with_len}
use Rattle.std.proofs.lemmas.Nat.{div-mul-add, mod-mul-add, mul-add-lt}
use Rattle.std.proofs.Math.ListN.{length-set}
use Rattle.std.proofs.Math.Nat.{mod-lt, div-lt_iff_lt-mul, mod-add-div'}
use Rattle.gate_model.specs.declared.cell.Cell.{Cell}
use Rattle.gate_model.specs.declared.cell.Half.{Half}
use Rattle.gate_model.specs.declared.cell.Half.TheVariants.{Whole, Left, Right}
use Rattle.gate_model.specs.terminal.CellLaws.{IsFull}
use Rattle.gate_model.specs.terminal.Cells.{CellGrid, blank, cell_at, put, left_half, right_half, stands, is_mended, spaced, mended_cell, mended, mended_at}
use Rattle.gate_model.specs.terminal.MendLaws.{AreMended, MendedStay, PlacesMend, WholesAreMended, AllAreMended}
use Rattle.gate_model.proofs.CellLaws.{put-by_cell}
use Rattle.gate_model.proofs.CellsKept.{cell_kept}

pub nat_cases : (a b : ℕ) → (a ≡ b) ⊎ (a ≡ b → ⊥)
nat_cases a b = elim (eqb_tells a b) [ inl p ↦ inl p.1 | inr p ↦ inr p.1 ]

-- ---- grids of the same cells

some_columns : (rows cols at : ℕ) → at < rows * cols → 0 < cols
some_columns rows zero at lt = absurd (omega (arith, lt))
some_columns rows (suc c) at lt = omega arith

-- the place of a list is one of a column and a row
place_back : (rows cols at : ℕ) → at < rows * cols → (at % cols < cols) × ((at / cols < rows) × (at / cols * cols + at % cols ≡ at))
place_back rows cols at lt =
    let some = some_columns rows cols at lt in
    (mod-lt at {m = cols} some, ((div-lt_iff_lt-mul {k = cols} {x = at} {y = rows} some).1 lt, omega (arith, mod-add-div' at cols)))

pub same_cells : (g h : CellGrid) → h.cols ≡ g.cols → h.rows ≡ g.rows → IsFull g → IsFull h → ((x y : ℕ) → x < g.cols → y < g.rows → cell_at x y h ≡ cell_at x y g) → h ≡ g
same_cells g h cols rows full fuller same =
    let size : length h.cells ≡ g.rows * g.cols = fuller ∙ (ap (λ r. r * h.cols) rows ∙ ap (λ c. g.rows * c) cols) in
    let cells : h.cells ≡ g.cells = ext_get_or blank h.cells g.cells (size ∙ sym full) (λ i lt.
    let p = place_back g.rows g.cols i (subst (λ n. i < n) size lt) in
    let here : i / g.cols * h.cols + i % g.cols ≡ i = ap (λ c. i / g.cols * c + i % g.cols) cols ∙ p.1.1 in
    ap (λ k. get_or h.cells k blank) (sym here) ∙ (same (i % g.cols) (i / g.cols) p.0 p.1.0 ∙ ap (λ k. get_or g.cells k blank) p.1.1)) in
    ap (λ c. record { cols = c; rows = h.rows; cells = h.cells }) cols
    ∙ (ap (λ r. record { cols = g.cols; rows = r; cells = h.cells }) rows ∙ ap (λ (cs : List Cell). record g { cells = cs }) cells)

-- ---- all at once

pub mended_full : (g : CellGrid) → IsFull (mended g)
mended_full g = length-map-range_with_len (λ at. mended_cell (at % g.cols) (at / g.cols) g) 0 (g.rows * g.cols)

pub mended_place : (g : CellGrid) (x y : ℕ) → x < g.cols → y < g.rows → cell_at x y (mended g) ≡ mended_cell x y g
mended_place g x y in_cols in_rows =
    get_or-map-range_with_len (λ at. mended_cell (at % g.cols) (at / g.cols) g) 0 (g.rows * g.cols) (y * g.cols + x) (y * g.cols + x) blank (omega (arith, mul-add-lt y g.cols x g.rows in_rows in_cols)) (omega arith)
    ∙ (ap (λ c. mended_cell c ((y * g.cols + x) / g.cols) g) (mod-mul-add y g.cols x in_cols)
    ∙ ap (λ r. mended_cell x r g) (div-mul-add y g.cols x in_cols))

pub mended-stay : MendedStay
mended-stay g full are = same_cells g (mended g) refl refl full (mended_full g) (λ x y in_cols in_rows. mended_place g x y in_cols in_rows ∙ rw (are x y in_cols in_rows) refl)

-- ---- one place

-- what stands beside a cell matters only where it is there
pub stands_same : (cols x : ℕ) (a b c d : Cell) (ch : ℕ) (half : Half) → (1 ≤ x → b ≡ a) → (x + 1 < cols → d ≡ c) → stands cols x b ch d half ≡ stands cols x a ch c half
stands_same cols x a b c d ch Whole before behind = refl
stands_same cols x a b c d ch Left before behind = by_room (nat_lt (x + 1) cols) refl
  where
    by_room : (k : Bool) → nat_lt (x + 1) cols ≡ k → (k && (right_half d.half && ch == d.ch)) ≡ (k && (right_half c.half && ch == c.ch))
    by_room false e = refl
    by_room true e = ap (λ (cell : Cell). true && (right_half cell.half && ch == cell.ch)) (behind (grind (arith, nat_tests)))
stands_same cols x a b c d ch Right before behind = by_room (nat_le 1 x) refl
  where
    by_room : (k : Bool) → nat_le 1 x ≡ k → (k && (left_half b.half && b.ch == ch)) ≡ (k && (left_half a.half && a.ch == ch))
    by_room false e = refl
    by_room true e = ap (λ (cell : Cell). true && (left_half cell.half && cell.ch == ch)) (before (grind (arith, nat_tests)))

-- a half without its other half is no one's other half
no_right : (k e f : Bool) (half : Half) → (half ≡ Right → k ≡ true → e ≡ false) → (k && (right_half Whole && f)) ≡ (k && (right_half half && e))
no_right false e f half none = refl
no_right true e f Whole none = refl
no_right true e f Left none = refl
no_right true e f Right none = sym (none refl refl)

no_left : (k e f : Bool) (half : Half) → (half ≡ Left → k ≡ true → e ≡ false) → (k && (left_half Whole && f)) ≡ (k && (left_half half && e))
no_left false e f half none = refl
no_left true e f Whole none = refl
no_left true e f Right none = refl
no_left true e f Left none = sym (none refl refl)

-- the cell behind becomes a space, which stood behind no left half
space_behind : (cols x : ℕ) (a c d : Cell) (ch : ℕ) (half : Half) → x + 1 < cols → (b : Cell) → b.ch ≡ ch → b.half ≡ half → stands cols (x + 1) b c.ch d c.half ≡ false
    → stands cols x a ch (spaced c) half ≡ stands cols x a ch c half
space_behind cols x a c d ch Whole lt b is_ch is_half none = refl
space_behind cols x a c d ch Right lt b is_ch is_half none = refl
space_behind cols x a c d ch Left lt b is_ch is_half none = no_right (nat_lt (x + 1) cols) (ch == c.ch) (ch == 32) c.half (λ right k. apart right)
  where
    apart : c.half ≡ Right → (ch == c.ch) ≡ false
    apart right =
        let low : nat_le 1 (x + 1) ≡ true = grind (arith, nat_tests) in
        ap (λ n. n == c.ch) (sym is_ch)
        ∙ sym (ap (λ (h : Half). left_half h && b.ch == c.ch) is_half)
        ∙ ap (λ (k : Bool). k && (left_half b.half && b.ch == c.ch)) (sym low)
        ∙ ap (stands cols (x + 1) b c.ch d) (sym right) ∙ none

-- .. and the cell before, which stood before no right half
space_before : (cols x : ℕ) (c d z : Cell) (ch : ℕ) (half : Half) → x + 1 < cols → (b : Cell) → b.ch ≡ ch → b.half ≡ half → stands cols x z c.ch b c.half ≡ false
    → stands cols (x + 1) (spaced c) ch d half ≡ stands cols (x + 1) c ch d half
space_before cols x c d z ch Whole lt b is_ch is_half none = refl
space_before cols x c d z ch Left lt b is_ch is_half none = refl
space_before cols x c d z ch Right lt b is_ch is_half none = no_left (nat_le 1 (x + 1)) (c.ch == ch) (32 == ch) c.half (λ left k. apart left)
  where
    apart : c.half ≡ Left → (c.ch == ch) ≡ false
    apart left =
        let room : nat_lt (x + 1) cols ≡ true = lt-ltb (x + 1) cols lt in
        ap (λ n. c.ch == n) (sym is_ch)
        ∙ sym (ap (λ (h : Half). right_half h && c.ch == b.ch) is_half)
        ∙ ap (λ (k : Bool). k && (right_half b.half && c.ch == b.ch)) (sym room)
        ∙ ap (stands cols x z c.ch b) (sym left) ∙ none

-- the places of a grid in which one cell was put
pub put_here : (g : CellGrid) (x y : ℕ) (cell : Cell) → IsFull g → x < g.cols → y < g.rows → cell_at x y (put x y cell g) ≡ cell
put_here g x y cell full xlt ylt = (put-by_cell g x y cell full xlt ylt).cells x y xlt ylt ∙ rw (eq-eqb x x refl, eq-eqb y y refl) refl

pub put_beside : (g : CellGrid) (x y : ℕ) (cell : Cell) (column row : ℕ) → IsFull g → x < g.cols → y < g.rows → column < g.cols → row < g.rows → ((column ≡ x) → (row ≡ y) → ⊥) → cell_at column row (put x y cell g) ≡ cell_at column row g
put_beside g x y cell column row full xlt ylt clt rlt apart = (put-by_cell g x y cell full xlt ylt).cells column row clt rlt ∙ pick (row == y) (column == x) refl refl
  where
    pick : (a b : Bool) → (row == y) ≡ a → (column == x) ≡ b → (if a && b then cell else cell_at column row g) ≡ cell_at column row g
    pick true true e f = absurd (apart (grind (arith, nat_tests)) (grind (arith, nat_tests)))
    pick true false e f = refl
    pick false b e f = refl

pub put_full : (g : CellGrid) (x y : ℕ) (cell : Cell) → IsFull g → IsFull (put x y cell g)
put_full g x y cell full = length-set g.cells (y * g.cols + x) cell ∙ full

-- a half without its other half becomes a space: the places of the other cells are as before
spaced_beside : (g : CellGrid) (x y column row : ℕ) → IsFull g → x < g.cols → y < g.rows → column < g.cols → row < g.rows → is_mended x y g ≡ false → ((column ≡ x) → (row ≡ y) → ⊥)
    → is_mended column row (put x y (spaced (cell_at x y g)) g) ≡ is_mended column row g
spaced_beside g x y column row full xlt ylt clt rlt none apart = by_row (nat_cases row y)
  where
    h : CellGrid
    h = put x y (spaced (cell_at x y g)) g

    cell : Cell
    cell = cell_at column row g

    same : cell_at column row h ≡ cell
    same = put_beside g x y (spaced (cell_at x y g)) column row full xlt ylt clt rlt apart

    -- the cell itself stays
    own : is_mended column row h ≡ stands g.cols column (cell_at (column - 1) row h) cell.ch (cell_at (column + 1) row h) cell.half
    own = ap (λ (k : Cell). stands g.cols column (cell_at (column - 1) row h) k.ch (cell_at (column + 1) row h) k.half) same

    far : ((column - 1 ≡ x) → (row ≡ y) → 1 ≤ column → ⊥) → ((column + 1 ≡ x) → (row ≡ y) → ⊥) → is_mended column row h ≡ is_mended column row g
    far before behind =
        own ∙ stands_same g.cols column (cell_at (column - 1) row g) (cell_at (column - 1) row h) (cell_at (column + 1) row g) (cell_at (column + 1) row h) cell.ch cell.half
        (λ some. put_beside g x y (spaced (cell_at x y g)) (column - 1) row full xlt ylt (omega (arith, clt)) rlt (λ e f. before e f some))
        (λ room. put_beside g x y (spaced (cell_at x y g)) (column + 1) row full xlt ylt room rlt behind)

    by_row : ((row ≡ y) ⊎ (row ≡ y → ⊥)) → is_mended column row h ≡ is_mended column row g
    by_row (inr other) = far (λ e f some. other f) (λ e f. other f)
    by_row (inl e) = by_column e (nat_cases (column + 1) x) (nat_cases column (x + 1))
      where
        by_column : row ≡ y → ((column + 1 ≡ x) ⊎ (column + 1 ≡ x → ⊥)) → ((column ≡ x + 1) ⊎ (column ≡ x + 1 → ⊥)) → is_mended column row h ≡ is_mended column row g
        by_column e (inr a) (inr b) = far (λ f r some. b (omega (arith, f, some))) (λ f r. a f)
        by_column e (inl a) q =
            let here : cell_at (column + 1) row h ≡ spaced (cell_at x y g) = ap (λ k. cell_at k row h) a ∙ (ap (λ k. cell_at x k h) e ∙ put_here g x y (spaced (cell_at x y g)) full xlt ylt) in
            let there : cell_at (column + 1) row g ≡ cell_at x y g = ap (λ k. cell_at k row g) a ∙ ap (λ k. cell_at x k g) e in
            let back : x - 1 ≡ column = omega (arith, a) in
            let left : cell_at (x - 1) y g ≡ cell = ap (λ k. cell_at k y g) back ∙ ap (λ k. cell_at column k g) (sym e) in
            let not_here : stands g.cols (column + 1) cell (cell_at x y g).ch (cell_at (x + 1) y g) (cell_at x y g).half ≡ false =
            ap (λ k. stands g.cols k cell (cell_at x y g).ch (cell_at (x + 1) y g) (cell_at x y g).half) a
            ∙ (ap (λ (k : Cell). stands g.cols x k (cell_at x y g).ch (cell_at (x + 1) y g) (cell_at x y g).half) (sym left) ∙ none) in
            own
            ∙ (stands_same g.cols column (cell_at (column - 1) row g) (cell_at (column - 1) row h) (spaced (cell_at x y g)) (cell_at (column + 1) row h) cell.ch cell.half
            (λ some. put_beside g x y (spaced (cell_at x y g)) (column - 1) row full xlt ylt (omega (arith, clt)) rlt (λ f r. omega (arith, f, a))) (λ room. here)
            ∙ (space_behind g.cols column (cell_at (column - 1) row g) (cell_at x y g) (cell_at (x + 1) y g) cell.ch cell.half (omega (arith, a, xlt)) cell refl refl not_here
            ∙ ap (λ (k : Cell). stands g.cols column (cell_at (column - 1) row g) cell.ch k cell.half) (sym there)))
        by_column e (inr a) (inl b) =
            let back : column - 1 ≡ x = omega (arith, b) in
            let here : cell_at (column - 1) row h ≡ spaced (cell_at x y g) = ap (λ k. cell_at k row h) back ∙ (ap (λ k. cell_at x k h) e ∙ put_here g x y (spaced (cell_at x y g)) full xlt ylt) in
            let there : cell_at (column - 1) row g ≡ cell_at x y g = ap (λ k. cell_at k row g) back ∙ ap (λ k. cell_at x k g) e in
            let right : cell_at (x + 1) y g ≡ cell = ap (λ k. cell_at k y g) (sym b) ∙ ap (λ k. cell_at column k g) (sym e) in
            let not_here : stands g.cols x (cell_at (x - 1) y g) (cell_at x y g).ch cell (cell_at x y g).half ≡ false =
            ap (λ (k : Cell). stands g.cols x (cell_at (x - 1) y g) (cell_at x y g).ch k (cell_at x y g).half) (sym right) ∙ none in
            own
            ∙ (stands_same g.cols column (spaced (cell_at x y g)) (cell_at (column - 1) row h) (cell_at (column + 1) row g) (cell_at (column + 1) row h) cell.ch cell.half
            (λ some. here) (λ room. put_beside g x y (spaced (cell_at x y g)) (column + 1) row full xlt ylt room rlt (λ f r. a f))
            ∙ (ap (λ k. stands g.cols k (spaced (cell_at x y g)) cell.ch (cell_at (column + 1) row g) cell.half) b
            ∙ (space_before g.cols x (cell_at x y g) (cell_at (column + 1) row g) (cell_at (x - 1) y g) cell.ch cell.half (omega (arith, b, clt)) cell refl refl not_here
            ∙ (ap (λ k. stands g.cols k (cell_at x y g) cell.ch (cell_at (column + 1) row g) cell.half) (sym b)
            ∙ ap (λ (k : Cell). stands g.cols column k cell.ch (cell_at (column + 1) row g) cell.half) (sym there)))))

-- one place mended
at_true : (g : CellGrid) (x y : ℕ) → is_mended x y g ≡ true → mended_at x y g ≡ g
at_true g x y is = ap (λ (cell : Cell). put x y cell g) (rw is refl) ∙ ap (λ (cells : List Cell). record g { cells = cells }) (set-get_or g.cells (y * g.cols + x) blank)

at_false : (g : CellGrid) (x y : ℕ) → is_mended x y g ≡ false → mended_at x y g ≡ put x y (spaced (cell_at x y g)) g
at_false g x y is = ap (λ (cell : Cell). put x y cell g) (rw is refl)

-- .. is mended, and each other place is as before
pub there_mended : (g : CellGrid) (x y : ℕ) → IsFull g → x < g.cols → y < g.rows → is_mended x y (mended_at x y g) ≡ true
there_mended g x y full xlt ylt = ⊎_elim
    (λ (yes_ : is_mended x y g ≡ true). ap (is_mended x y) (at_true g x y yes_) ∙ yes_)
    (λ (no_ : is_mended x y g ≡ false).
    ap (is_mended x y) (at_false g x y no_)
    ∙ ap (λ (k : Cell). stands g.cols x (cell_at (x - 1) y (put x y (spaced (cell_at x y g)) g)) k.ch (cell_at (x + 1) y (put x y (spaced (cell_at x y g)) g)) k.half) (put_here g x y (spaced (cell_at x y g)) full xlt ylt))
    (cases_Bool (is_mended x y g))

pub others_mended : (g : CellGrid) (x y column row : ℕ) → IsFull g → x < g.cols → y < g.rows → column < g.cols → row < g.rows → ((column ≡ x) → (row ≡ y) → ⊥) → is_mended column row (mended_at x y g) ≡ is_mended column row g
others_mended g x y column row full xlt ylt clt rlt apart = ⊎_elim
    (λ (yes_ : is_mended x y g ≡ true). ap (is_mended column row) (at_true g x y yes_))
    (λ (no_ : is_mended x y g ≡ false). ap (is_mended column row) (at_false g x y no_) ∙ spaced_beside g x y column row full xlt ylt clt rlt no_ apart)
    (cases_Bool (is_mended x y g))

pub at_full : (g : CellGrid) (x y : ℕ) → IsFull g → IsFull (mended_at x y g)
at_full g x y full = length-set g.cells (y * g.cols + x) (mended_cell x y g) ∙ full

cell_same : (g : CellGrid) (x y column row : ℕ) → IsFull g → x < g.cols → y < g.rows → column < g.cols → row < g.rows → mended_cell column row (mended_at x y g) ≡ mended_cell column row g
cell_same g x y column row full xlt ylt clt rlt = pick (nat_cases column x) (nat_cases row y)
  where
    there : (column ≡ x → row ≡ y → ⊥) → mended_cell column row (mended_at x y g) ≡ mended_cell column row g
    there apart =
        ap (λ (b : Bool). if b then cell_at column row (mended_at x y g) else spaced (cell_at column row (mended_at x y g))) (others_mended g x y column row full xlt ylt clt rlt apart)
        ∙ ap (λ (k : Cell). if is_mended column row g then k else spaced k) (put_beside g x y (mended_cell x y g) column row full xlt ylt clt rlt apart)

    pick : ((column ≡ x) ⊎ (column ≡ x → ⊥)) → ((row ≡ y) ⊎ (row ≡ y → ⊥)) → mended_cell column row (mended_at x y g) ≡ mended_cell column row g
    pick (inr a) q = there (λ e f. a e)
    pick (inl e) (inr b) = there (λ f r. b r)
    pick (inl e) (inl f) =
        ap (λ k. mended_cell k row (mended_at x y g)) e ∙ (ap (λ k. mended_cell x k (mended_at x y g)) f
        ∙ (ap (λ (b : Bool). if b then cell_at x y (mended_at x y g) else spaced (cell_at x y (mended_at x y g))) (there_mended g x y full xlt ylt)
        ∙ (put_here g x y (mended_cell x y g) full xlt ylt ∙ (ap (λ k. mended_cell x k g) (sym f) ∙ ap (λ k. mended_cell k row g) (sym e)))))

pub mending-goes-on : (g : CellGrid) (x y : ℕ) → IsFull g → x < g.cols → y < g.rows → mended (mended_at x y g) ≡ mended g
mending-goes-on g x y full xlt ylt = same_cells (mended g) (mended (mended_at x y g)) refl refl (mended_full g) (mended_full (mended_at x y g))
    (λ column row clt rlt. mended_place (mended_at x y g) column row clt rlt ∙ (cell_same g x y column row full xlt ylt clt rlt ∙ sym (mended_place g column row clt rlt)))

pub places-mend : PlacesMend
places-mend g x y full xlt ylt = record {
  full = at_full g x y full;
  here = there_mended g x y full xlt ylt;
  others = λ column row clt rlt apart. others_mended g x y column row full xlt ylt clt rlt apart;
  all = mending-goes-on g x y full xlt ylt;
}

-- ---- whole cells

pub wholes-are-mended : WholesAreMended
wholes-are-mended g all x y xlt ylt = ap (stands g.cols x (cell_at (x - 1) y g) (cell_at x y g).ch (cell_at (x + 1) y g)) (cell_kept (λ (cell : Cell). cell.half ≡ Whole) refl g.cells (y * g.cols + x) all)

-- ---- after all are mended

-- a half whose other half isn't mended isn't mended itself; so what is mended stands beside what is mended
pub left_paired : (cols x : ℕ) (a b d : Cell) → stands cols x a b.ch d b.half ≡ true → b.half ≡ Left → (z : Cell) → x + 1 < cols → stands cols (x + 1) b d.ch z d.half ≡ true
left_paired cols x a b d is left z room = by_half d.half refl
  where
    tests : (nat_lt (x + 1) cols && (right_half d.half && b.ch == d.ch)) ≡ true
    tests = ap (stands cols x a b.ch d) (sym left) ∙ is

    both : (p q r : Bool) → (p && (q && r)) ≡ true → (q ≡ true) × (r ≡ true)
    both true true true e = (refl, refl)
    both true true false e = absurd (let w : false ≡ true = e in cc)
    both true false r e = absurd (let w : false ≡ true = e in cc)
    both false q r e = absurd (let w : false ≡ true = e in cc)

    t : (right_half d.half ≡ true) × ((b.ch == d.ch) ≡ true)
    t = both (nat_lt (x + 1) cols) (right_half d.half) (b.ch == d.ch) tests

    by_half : (h : Half) → d.half ≡ h → stands cols (x + 1) b d.ch z d.half ≡ true
    by_half Whole e = absurd (let w : false ≡ true = ap right_half (sym e) ∙ t.0 in cc)
    by_half Left e = absurd (let w : false ≡ true = ap right_half (sym e) ∙ t.0 in cc)
    by_half Right e =
        let low : nat_le 1 (x + 1) ≡ true = grind (arith, nat_tests) in
        ap (stands cols (x + 1) b d.ch z) e ∙ rw (low, ap left_half left, t.1) refl

-- .. and the same from the right half
pub right_paired : (cols x : ℕ) (a b d : Cell) → stands cols (x + 1) a b.ch d b.half ≡ true → b.half ≡ Right → (z : Cell) → x + 1 < cols → stands cols x z a.ch b a.half ≡ true
right_paired cols x a b d is right z room = by_half a.half refl
  where
    tests : (nat_le 1 (x + 1) && (left_half a.half && a.ch == b.ch)) ≡ true
    tests = ap (stands cols (x + 1) a b.ch d) (sym right) ∙ is

    both : (p q r : Bool) → (p && (q && r)) ≡ true → (q ≡ true) × (r ≡ true)
    both true true true e = (refl, refl)
    both true true false e = absurd (let w : false ≡ true = e in cc)
    both true false r e = absurd (let w : false ≡ true = e in cc)
    both false q r e = absurd (let w : false ≡ true = e in cc)

    t : (left_half a.half ≡ true) × ((a.ch == b.ch) ≡ true)
    t = both (nat_le 1 (x + 1)) (left_half a.half) (a.ch == b.ch) tests

    by_half : (h : Half) → a.half ≡ h → stands cols x z a.ch b a.half ≡ true
    by_half Whole e = absurd (let w : false ≡ true = ap left_half (sym e) ∙ t.0 in cc)
    by_half Right e = absurd (let w : false ≡ true = ap left_half (sym e) ∙ t.0 in cc)
    by_half Left e =
        let low : nat_lt (x + 1) cols ≡ true = lt-ltb (x + 1) cols room in
        ap (stands cols x z a.ch b) e ∙ rw (low, ap right_half right, t.1) refl

module _ (g : CellGrid) (full : IsFull g) where
  abbrev after : CellGrid
  after = mended g

  kept : (x y : ℕ) → x < g.cols → y < g.rows → is_mended x y g ≡ true → cell_at x y after ≡ cell_at x y g
  kept x y xlt ylt is = mended_place g x y xlt ylt ∙ rw is refl

  -- what stands beside its other half still does: that one does too
  still_mended : (x y : ℕ) → x < g.cols → y < g.rows → is_mended x y g ≡ true → is_mended x y after ≡ true
  still_mended x y xlt ylt is = ap (λ (c : Cell). stands g.cols x (cell_at (x - 1) y after) c.ch (cell_at (x + 1) y after) c.half) (kept x y xlt ylt is) ∙ by_half k.half refl
    where
      k : Cell
      k = cell_at x y g

      right_there : k.half ≡ Left → x + 1 < g.cols → is_mended (x + 1) y g ≡ true
      right_there e room =
          let back : x + 1 - 1 ≡ x = omega arith in
          ap (λ c. stands g.cols (x + 1) (cell_at c y g) (cell_at (x + 1) y g).ch (cell_at (x + 1 + 1) y g) (cell_at (x + 1) y g).half) back
          ∙ left_paired g.cols x (cell_at (x - 1) y g) k (cell_at (x + 1) y g) is e (cell_at (x + 1 + 1) y g) room

      left_there : k.half ≡ Right → 1 ≤ x → is_mended (x - 1) y g ≡ true
      left_there e some =
          let next : x - 1 + 1 ≡ x = omega (arith, some) in
          let here : stands g.cols (x - 1 + 1) (cell_at (x - 1) y g) k.ch (cell_at (x + 1) y g) k.half ≡ true = ap (λ c. stands g.cols c (cell_at (x - 1) y g) k.ch (cell_at (x + 1) y g) k.half) next ∙ is in
          ap (λ c. stands g.cols (x - 1) (cell_at (x - 1 - 1) y g) (cell_at (x - 1) y g).ch (cell_at c y g) (cell_at (x - 1) y g).half) next
          ∙ right_paired g.cols (x - 1) (cell_at (x - 1) y g) k (cell_at (x + 1) y g) here e (cell_at (x - 1 - 1) y g) (omega (arith, next, xlt))

      by_half : (half : Half) → k.half ≡ half → stands g.cols x (cell_at (x - 1) y after) k.ch (cell_at (x + 1) y after) k.half ≡ true
      by_half Whole e = ap (stands g.cols x (cell_at (x - 1) y after) k.ch (cell_at (x + 1) y after)) e
      by_half Left e =
          stands_same g.cols x (cell_at (x - 1) y after) (cell_at (x - 1) y after) (cell_at (x + 1) y g) (cell_at (x + 1) y after) k.ch k.half (λ some. refl) (λ room. kept (x + 1) y room ylt (right_there e room))
          ∙ (ap (stands g.cols x (cell_at (x - 1) y after) k.ch (cell_at (x + 1) y g)) e
          ∙ (sym (ap (stands g.cols x (cell_at (x - 1) y g) k.ch (cell_at (x + 1) y g)) e) ∙ is))
      by_half Right e =
          stands_same g.cols x (cell_at (x - 1) y g) (cell_at (x - 1) y after) (cell_at (x + 1) y after) (cell_at (x + 1) y after) k.ch k.half (λ some. kept (x - 1) y (omega (arith, xlt)) ylt (left_there e some)) (λ room. refl)
          ∙ (ap (stands g.cols x (cell_at (x - 1) y g) k.ch (cell_at (x + 1) y after)) e
          ∙ (sym (ap (stands g.cols x (cell_at (x - 1) y g) k.ch (cell_at (x + 1) y g)) e) ∙ is))

  all_mended : AreMended after
  all_mended x y xlt ylt = ⊎_elim
      (λ (yes_ : is_mended x y g ≡ true). still_mended x y xlt ylt yes_)
      (λ (no_ : is_mended x y g ≡ false).
      let space : cell_at x y after ≡ spaced (cell_at x y g) = mended_place g x y xlt ylt ∙ rw no_ refl in
      ap (λ (c : Cell). stands g.cols x (cell_at (x - 1) y after) c.ch (cell_at (x + 1) y after) c.half) space)
      (cases_Bool (is_mended x y g))

pub all-are-mended : AllAreMended
all-are-mended g full = (mended_full g, all_mended g full)
