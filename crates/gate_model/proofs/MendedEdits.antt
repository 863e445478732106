-- What edits leave to mend: the places beside the columns that they change, a row, or nothing.
use Rattle.std.proofs.Common.{◌≡◌, ℕ, ◌+◌, ◌-◌, ◌<◌, ◌≤◌, Bool, true, false, ◌⊎◌, inl, inr, refl, ap, sym, ◌∙◌, arith}
use Rattle.std.specs.Prelude.{◌&&◌, ◌==◌, nat_le, nat_lt, if◌then◌else◌}
use Rattle.std.proofs.lemmas.Bool.{cases_lt, lt-ltb, le-leb, eq-eqb, ne_eqb}
use Rattle.std.proofs.lemmas.Bool.Decides.{nat_tests}
use Rattle.gate_model.specs.declared.cell.Cell.{Cell}
use Rattle.gate_model.specs.declared.cell.Half.TheVariants.{Left, Right}
use Rattle.gate_model.specs.terminal.CellLaws.{IsFull, Becomes}
use Rattle.gate_model.specs.terminal.Cells.{CellGrid, blank, cell_at, put, paired, erased, inserted, deleted, scrolled_up, scrolled_down, left_half, right_half, stands, is_mended, mended, mended_at}
use Rattle.gate_model.specs.terminal.MendLaws.{AreMended, mended_behind, TwoMend, IsWindow, WindowsMend, PutMends, PairMends, ErasedMends, RowsMend, MovedMend, ScrolledMend}
use Rattle.gate_model.proofs.CellLaws.{erased-by_cell, inserted-by_cell, deleted-by_cell, scrolled_up-by_cell, scrolled_down-by_cell}
use Rattle.gate_model.proofs.Mending.{nat_cases, stands_same, put_here, put_beside, put_full, mended-stay, there_mended, others_mended, at_full, mending-goes-on}

-- ---- the places beside a window

-- the three cells that a place looks at are as before
unchanged : (g h : CellGrid) (x y : ℕ) → h.cols ≡ g.cols → cell_at x y h ≡ cell_at x y g → (1 ≤ x → cell_at (x - 1) y h ≡ cell_at (x - 1) y g) → (x + 1 < g.cols → cell_at (x + 1) y h ≡ cell_at (x + 1) y g)
    → is_mended x y h ≡ is_mended x y g
unchanged g h x y cols same before behind =
    let cell = cell_at x y g in
    ap (λ (k : Cell). stands h.cols x (cell_at (x - 1) y h) k.ch (cell_at (x + 1) y h) k.half) same
    ∙ (ap (λ c. stands c x (cell_at (x - 1) y h) cell.ch (cell_at (x + 1) y h) cell.half) cols
    ∙ stands_same g.cols x (cell_at (x - 1) y g) (cell_at (x - 1) y h) (cell_at (x + 1) y g) (cell_at (x + 1) y h) cell.ch cell.half before behind)

window_places : (g h : CellGrid) (y from to column row : ℕ) → AreMended g → IsWindow g h y from to → column < g.cols → row < g.rows
    → (row ≡ y → column + 1 ≡ from → ⊥) → (row ≡ y → column ≡ to → ⊥) → is_mended column row h ≡ true
window_places g h y from to column row are w clt rlt before behind = by_row (nat_cases row y)
  where
    still : ((c : ℕ) → row ≡ y → (c ≡ column) ⊎ ((1 ≤ column × c ≡ column - 1) ⊎ (c ≡ column + 1)) → from ≤ c → c < to → ⊥) → is_mended column row h ≡ true
    still apart =
        unchanged g h column row w.cols
        (w.outside column row clt rlt (λ e low high. apart column e (inl refl) low high))
        (λ some. w.outside (column - 1) row (omega (arith, clt)) rlt (λ e low high. apart (column - 1) e (inr (inl (some, refl))) low high))
        (λ room. w.outside (column + 1) row room rlt (λ e low high. apart (column + 1) e (inr (inr refl)) low high))
        ∙ are column row clt rlt

    by_row : ((row ≡ y) ⊎ (row ≡ y → ⊥)) → is_mended column row h ≡ true
    by_row (inr other) = still (λ c e q low high. other e)
    by_row (inl e) = by_side (cases_lt column from) (cases_lt column to)
      where
        by_side : (column < from) ⊎ (from ≤ column) → (column < to) ⊎ (to ≤ column) → is_mended column row h ≡ true
        by_side (inr low) (inl high) = ap (λ r. is_mended column r h) e ∙ w.inside column low high
        by_side (inl left) q = still (λ c f side low high. elim side [
          | inl p ↦ omega (arith, p, left, low)
          | inr (inl p) ↦ omega (arith, p.1, left, low)
          | inr (inr p) ↦ before e (omega (arith, p, left, low))
        ])
        by_side (inr low) (inr right) = still (λ c f side near high. elim side [
          | inl p ↦ omega (arith, p, right, high)
          | inr (inl p) ↦ behind e (omega (arith, p.0, p.1, right, high))
          | inr (inr p) ↦ omega (arith, p, right, high)
        ])

-- the two places are mended
pub two-mend : TwoMend
two-mend h y from to full ylt few are = first (nat_le 1 from) refl
  where
    second : (k : CellGrid) → IsFull k → k.cols ≡ h.cols → k.rows ≡ h.rows → mended k ≡ mended h
        → ((column row : ℕ) → column < k.cols → row < k.rows → (row ≡ y → column ≡ to → ⊥) → is_mended column row k ≡ true) → mended h ≡ mended_behind to y k
    second k fuller cols rows same left = by_room (nat_lt to k.cols) refl
      where
        by_room : (b : Bool) → nat_lt to k.cols ≡ b → mended h ≡ (if b then mended_at to y k else k)
        by_room false e =
            sym same ∙ mended-stay k fuller (λ column row clt rlt. left column row clt rlt (λ f g. let out : k.cols ≤ to = grind (arith, nat_tests) in omega (arith, g, out, clt)))
        by_room true e =
            let lt : to < k.cols = grind (arith, nat_tests) in
            let in_rows : y < k.rows = omega (arith, rows, ylt) in
            sym same ∙ (sym (mending-goes-on k to y fuller lt in_rows)
            ∙ mended-stay (mended_at to y k) (at_full k to y fuller) (λ column row clt rlt. pick column row clt rlt lt in_rows (nat_cases column to) (nat_cases row y)))
          where
            pick : (column row : ℕ) → column < k.cols → row < k.rows → to < k.cols → y < k.rows → ((column ≡ to) ⊎ (column ≡ to → ⊥)) → ((row ≡ y) ⊎ (row ≡ y → ⊥)) → is_mended column row (mended_at to y k) ≡ true
            pick column row clt rlt lt in_rows (inl f) (inl r) = ap (λ n. is_mended n row (mended_at to y k)) f ∙ (ap (λ n. is_mended to n (mended_at to y k)) r ∙ there_mended k to y fuller lt in_rows)
            pick column row clt rlt lt in_rows (inr f) q = others_mended k to y column row fuller lt in_rows clt rlt (λ g r. f g) ∙ left column row clt rlt (λ r g. f g)
            pick column row clt rlt lt in_rows (inl f) (inr r) = others_mended k to y column row fuller lt in_rows clt rlt (λ g s. r s) ∙ left column row clt rlt (λ s g. r s)

    first : (b : Bool) → nat_le 1 from ≡ b → mended h ≡ mended_behind to y (if b then mended_at (from - 1) y h else h)
    first false e = second h full refl refl refl (λ column row clt rlt behind. are column row clt rlt (λ r f. let none : from < 1 = grind (arith, nat_tests) in omega (arith, f, none)) behind)
    first true e =
        let some : 1 ≤ from = grind (arith, nat_tests) in
        let lt : from - 1 < h.cols = omega (arith, some, few) in
        second (mended_at (from - 1) y h) (at_full h (from - 1) y full) refl refl (mending-goes-on h (from - 1) y full lt ylt) (λ column row clt rlt behind. pick column row clt rlt some lt behind (nat_cases column (from - 1)) (nat_cases row y))
      where
        pick : (column row : ℕ) → column < h.cols → row < h.rows → 1 ≤ from → from - 1 < h.cols → (row ≡ y → column ≡ to → ⊥) → ((column ≡ from - 1) ⊎ (column ≡ from - 1 → ⊥)) → ((row ≡ y) ⊎ (row ≡ y → ⊥)) → is_mended column row (mended_at (from - 1) y h) ≡ true
        pick column row clt rlt some lt behind (inl f) (inl r) = ap (λ n. is_mended n row (mended_at (from - 1) y h)) f ∙ (ap (λ n. is_mended (from - 1) n (mended_at (from - 1) y h)) r ∙ there_mended h (from - 1) y full lt ylt)
        pick column row clt rlt some lt behind (inr f) q = others_mended h (from - 1) y column row full lt ylt clt rlt (λ g r. f g) ∙ are column row clt rlt (λ r g. f (omega (arith, g))) behind
        pick column row clt rlt some lt behind (inl f) (inr r) = others_mended h (from - 1) y column row full lt ylt clt rlt (λ g s. r s) ∙ are column row clt rlt (λ s g. r s) behind

pub windows-mend : WindowsMend
windows-mend g h y from to are w column row clt rlt before behind = window_places g h y from to column row are w (omega (arith, clt, w.cols)) (omega (arith, rlt, w.rows)) before behind

-- ---- a whole cell, the two of a wide character, and columns that are erased

pub put-mends : PutMends
put-mends g x y cell full are xlt ylt whole =
    let h = put x y cell g in
    windows-mend g h y x (x + 1) are record {
      cols = refl;
      rows = refl;
      inside = λ column low high.
          let same : column ≡ x = omega (arith, low, high) in
          ap (λ c. is_mended c y h) same
          ∙ (ap (λ (k : Cell). stands g.cols x (cell_at (x - 1) y h) k.ch (cell_at (x + 1) y h) k.half) (put_here g x y cell full xlt ylt)
          ∙ ap (stands g.cols x (cell_at (x - 1) y h) cell.ch (cell_at (x + 1) y h)) whole);
      outside = λ column row clt rlt apart. put_beside g x y cell column row full xlt ylt clt rlt (λ e f. apart f (omega (arith, e)) (omega (arith, e)));
    }

module _ (g : CellGrid) (x y : ℕ) (cell : Cell) (full : IsFull g) (room : x + 1 < g.cols) (ylt : y < g.rows) where
  abbrev left : Cell
  left = record cell { half = Left }

  abbrev right : Cell
  right = record cell { half = Right }

  abbrev one : CellGrid
  one = put x y left g

  abbrev both : CellGrid
  both = paired x y cell g

  xlt : x < g.cols
  xlt = omega (arith, room)

  one_full : IsFull one
  one_full = put_full g x y left full

  left_is : cell_at x y both ≡ left
  left_is = put_beside one (x + 1) y right x y one_full room ylt xlt ylt (λ e f. omega (arith, e)) ∙ put_here g x y left full xlt ylt

  right_is : cell_at (x + 1) y both ≡ right
  right_is = put_here one (x + 1) y right one_full room ylt

  at_left : is_mended x y both ≡ true
  at_left =
      ap (λ (k : Cell). stands g.cols x (cell_at (x - 1) y both) k.ch (cell_at (x + 1) y both) k.half) left_is
      ∙ (ap (λ (d : Cell). nat_lt (x + 1) g.cols && (right_half d.half && cell.ch == d.ch)) right_is ∙ rw (lt-ltb (x + 1) g.cols room, eq-eqb cell.ch cell.ch refl) refl)

  at_right : is_mended (x + 1) y both ≡ true
  at_right =
      let back : x + 1 - 1 ≡ x = omega arith in
      ap (λ (k : Cell). stands g.cols (x + 1) (cell_at (x + 1 - 1) y both) k.ch (cell_at (x + 1 + 1) y both) k.half) right_is
      ∙ (ap (λ c. nat_le 1 (x + 1) && (left_half (cell_at c y both).half && (cell_at c y both).ch == cell.ch)) back
      ∙ (ap (λ (b : Cell). nat_le 1 (x + 1) && (left_half b.half && b.ch == cell.ch)) left_is ∙ rw (le-leb 1 (x + 1) (omega arith), eq-eqb cell.ch cell.ch refl) refl))

  pair_window : IsWindow g both y x (x + 2)
  pair_window = record {
    cols = refl;
    rows = refl;
    inside = λ column low high. elim (cases_lt column (x + 1)) [
      | inl lt ↦ (let same : column ≡ x = omega (arith, low, lt) in ap (λ c. is_mended c y both) same ∙ at_left)
      | inr ge ↦ (let same : column ≡ x + 1 = omega (arith, ge, high) in ap (λ c. is_mended c y both) same ∙ at_right)
    ];
    outside = λ column row clt rlt apart.
        put_beside one (x + 1) y right column row one_full room ylt clt rlt (λ e f. apart f (omega (arith, e)) (omega (arith, e)))
        ∙ put_beside g x y left column row full xlt ylt clt rlt (λ e f. apart f (omega (arith, e)) (omega (arith, e)));
  }

pub pair-mends : PairMends
pair-mends g x y cell full are room ylt = windows-mend g (paired x y cell g) y x (x + 2) are (pair_window g x y cell full room ylt)

pub erased-mends : ErasedMends
erased-mends g y from to full are ylt order within =
    let b = erased-by_cell g y from to full ylt order within in
    let h = erased y from to g in
    windows-mend g h y from to are record {
      cols = refl;
      rows = refl;
      inside = λ column low high.
          let here : (y == y && (nat_le from column && nat_lt column to)) ≡ true = rw (eq-eqb y y refl, le-leb from column low, lt-ltb column to high) refl in
          let cell : cell_at column y h ≡ blank = b.cells column y (omega (arith, high, within)) ylt ∙ rw here refl in
          ap (λ (k : Cell). stands g.cols column (cell_at (column - 1) y h) k.ch (cell_at (column + 1) y h) k.half) cell;
      outside = λ column row clt rlt apart. b.cells column row clt rlt ∙ elsewhere column row apart (row == y) (nat_le from column) (nat_lt column to) refl refl refl;
    }
  where
    elsewhere : (column row : ℕ) → (row ≡ y → from ≤ column → column < to → ⊥) → (p q r : Bool) → (row == y) ≡ p → nat_le from column ≡ q → nat_lt column to ≡ r → (if p && (q && r) then blank else cell_at column row g) ≡ cell_at column row g
    elsewhere column row apart true true true e f k = absurd (apart (grind (arith, nat_tests)) (grind (arith, nat_tests)) (grind (arith, nat_tests)))
    elsewhere column row apart true true false e f k = refl
    elsewhere column row apart true false r e f k = refl
    elsewhere column row apart false q r e f k = refl

-- ---- a row

pub rows-mend : RowsMend
rows-mend g h y are cols rows same column row clt rlt other =
    let in_cols : column < g.cols = omega (arith, clt, cols) in
    let in_rows : row < g.rows = omega (arith, rlt, rows) in
    unchanged g h column row cols (same column row in_cols in_rows other) (λ some. same (column - 1) row (omega (arith, in_cols)) in_rows other) (λ room. same (column + 1) row room in_rows other)
    ∙ are column row in_cols in_rows other

other_row : (row y x column : ℕ) → (row ≡ y → ⊥) → (row == y && nat_le x column) ≡ false
other_row row y x column other = ap (λ (b : Bool). b && nat_le x column) (ne_eqb row y other)

pub moved-mend : MovedMend
moved-mend g x y n full are xlt ylt = (
  (let b = inserted-by_cell g x y n full xlt ylt in rows-mend g (inserted x y n g) y (λ column row clt rlt other. are column row clt rlt) refl refl (λ column row clt rlt other. b.cells column row clt rlt ∙ rw (other_row row y x column other) refl)),
  (let b = deleted-by_cell g x y n full xlt ylt in rows-mend g (deleted x y n g) y (λ column row clt rlt other. are column row clt rlt) refl refl (λ column row clt rlt other. b.cells column row clt rlt ∙ rw (other_row row y x column other) refl)),
)

-- ---- lines that move

-- a place whose row is as another row was
as_row : (g h : CellGrid) (x y from : ℕ) → h.cols ≡ g.cols → x < g.cols → ((c : ℕ) → c < g.cols → cell_at c y h ≡ cell_at c from g) → is_mended x y h ≡ is_mended x from g
as_row g h x y from cols in_cols row =
    let cell = cell_at x from g in
    ap (λ (k : Cell). stands h.cols x (cell_at (x - 1) y h) k.ch (cell_at (x + 1) y h) k.half) (row x in_cols)
    ∙ (ap (λ c. stands c x (cell_at (x - 1) y h) cell.ch (cell_at (x + 1) y h) cell.half) cols
    ∙ stands_same g.cols x (cell_at (x - 1) from g) (cell_at (x - 1) y h) (cell_at (x + 1) from g) (cell_at (x + 1) y h) cell.ch cell.half (λ some. row (x - 1) (omega (arith, in_cols))) (λ room. row (x + 1) room))

blank_row : (h : CellGrid) (x y : ℕ) → cell_at x y h ≡ blank → is_mended x y h ≡ true
blank_row h x y is = ap (λ (k : Cell). stands h.cols x (cell_at (x - 1) y h) k.ch (cell_at (x + 1) y h) k.half) is

up-mend : (g : CellGrid) (top bottom n : ℕ) → IsFull g → AreMended g → top ≤ bottom → bottom < g.rows → AreMended (scrolled_up top bottom n g)
up-mend g top bottom n full are order lt x y in_cols in_rows = pick (nat_le top y && nat_le y bottom) (nat_le (y + n) bottom) refl refl
  where
    b : Becomes g (scrolled_up top bottom n g) (λ column row. if nat_le top row && nat_le row bottom then (if nat_le (row + n) bottom then cell_at column (row + n) g else blank) else cell_at column row g)
    b = scrolled_up-by_cell g top bottom n full order lt

    pick : (p q : Bool) → (nat_le top y && nat_le y bottom) ≡ p → nat_le (y + n) bottom ≡ q → is_mended x y (scrolled_up top bottom n g) ≡ true
    pick true true e f =
        let low : y + n ≤ bottom = grind (arith, nat_tests) in
        as_row g (scrolled_up top bottom n g) x y (y + n) refl in_cols (λ c clt. b.cells c y clt in_rows ∙ rw (e, f) refl) ∙ are x (y + n) in_cols (omega (arith, low, lt))
    pick true false e f = blank_row (scrolled_up top bottom n g) x y (b.cells x y in_cols in_rows ∙ rw (e, f) refl)
    pick false q e f = as_row g (scrolled_up top bottom n g) x y y refl in_cols (λ c clt. b.cells c y clt in_rows ∙ rw e refl) ∙ are x y in_cols in_rows

down-mend : (g : CellGrid) (top bottom n : ℕ) → IsFull g → AreMended g → top ≤ bottom → bottom < g.rows → AreMended (scrolled_down top bottom n g)
down-mend g top bottom n full are order lt x y in_cols in_rows = pick (nat_le top y && nat_le y bottom) (nat_le (top + n) y) refl refl
  where
    b : Becomes g (scrolled_down top bottom n g) (λ column row. if nat_le top row && nat_le row bottom then (if nat_le (top + n) row then cell_at column (row - n) g else blank) else cell_at column row g)
    b = scrolled_down-by_cell g top bottom n full order lt

    pick : (p q : Bool) → (nat_le top y && nat_le y bottom) ≡ p → nat_le (top + n) y ≡ q → is_mended x y (scrolled_down top bottom n g) ≡ true
    pick true true e f = as_row g (scrolled_down top bottom n g) x y (y - n) refl in_cols (λ c clt. b.cells c y clt in_rows ∙ rw (e, f) refl) ∙ are x (y - n) in_cols (omega (arith, in_rows))
    pick true false e f = blank_row (scrolled_down top bottom n g) x y (b.cells x y in_cols in_rows ∙ rw (e, f) refl)
    pick false q e f = as_row g (scrolled_down top bottom n g) x y y refl in_cols (λ c clt. b.cells c y clt in_rows ∙ rw e refl) ∙ are x y in_cols in_rows

pub scrolled-mend : ScrolledMend
scrolled-mend g top bottom n full are order lt = (up-mend g top bottom n full are order lt, down-mend g top bottom n full are order lt)
