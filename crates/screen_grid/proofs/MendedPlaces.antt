-- A grid that is mended place after place, and row after row.
use Rattle.std.proofs.Common.{◌≡◌, ℕ, ◌+◌, ◌<◌, ◌≤◌, true, false, ◌⊎◌, inl, inr, refl, ap, sym, ◌∙◌, subst, arith}
use Rattle.std.proofs.lemmas.Bool.{cases_lt}
use Rattle.gate_model.specs.terminal.CellLaws.{IsFull}
use Rattle.gate_model.specs.terminal.Cells.{CellGrid, is_mended, mended, mended_at}
use Rattle.gate_model.specs.terminal.MendLaws.{AreMendedBeside, AreMendedBut, AreWhole, MendsOne, mended_before, mended_behind}
use Rattle.gate_model.proofs.Mending.{nat_cases, mended-stay, places-mend, wholes-are-mended}
use Rattle.gate_model.proofs.MendedEdits.{two-mend}
use Rattle.screen_grid.specs.Held.{cells_of, IsHeld}
use Rattle.screen_grid.specs.Mending.{HasMended, HasMendedRows}
use Rattle.screen_grid.specs.declared.grid.Grid.TheInside.{Inside}

-- ---- place after place

pub none_mended : (g : CellGrid) (y : ℕ) → IsFull g → HasMended y 0 g g
none_mended g y full = record {
  full = full;
  cols = refl;
  rows = refl;
  all = refl;
  here = λ column clt lt. absurd (omega (arith, lt));
  others = λ column row clt rlt other. refl;
}

one_more : (g h : CellGrid) (x y : ℕ) → x < g.cols → y < g.rows → HasMended y x g h → HasMended y (x + 1) g (mended_at x y h)
one_more g h x y xlt ylt s = record {
  full = m.full;
  cols = s.cols;
  rows = s.rows;
  all = m.all ∙ s.all;
  here = λ column clt lt. pick column clt lt (cases_lt column x);
  others = λ column row clt rlt other. m.others column row (omega (arith, clt, s.cols)) (omega (arith, rlt, s.rows)) (λ e f. other f) ∙ s.others column row clt rlt other;
}
  where
    in_rows : y < h.rows
    in_rows = omega (arith, ylt, s.rows)

    m : MendsOne h x y
    m = places-mend h x y s.full (omega (arith, xlt, s.cols)) in_rows

    pick : (column : ℕ) → column < g.cols → column < x + 1 → (column < x) ⊎ (x ≤ column) → is_mended column y (mended_at x y h) ≡ true
    pick column clt lt (inl low) = m.others column y (omega (arith, clt, s.cols)) in_rows (λ e f. omega (arith, e, low)) ∙ s.here column clt low
    pick column clt lt (inr high) = let e : column ≡ x = omega (arith, lt, high) in ap (λ c. is_mended c y (mended_at x y h)) e ∙ m.here

pub some_more : (g h new : CellGrid) (x y : ℕ) → x < g.cols → y < g.rows → new ≡ mended_at x y h → HasMended y x g h → HasMended y (x + 1) g new
some_more g h new x y xlt ylt is s = subst (λ (k : CellGrid). HasMended y (x + 1) g k) (sym is) (one_more g h x y xlt ylt s)

pub all_more : (g new : CellGrid) (x y : ℕ) → g.cols ≤ x → HasMended y x g new → HasMended y g.cols g new
all_more g new x y le s = record {
  full = s.full;
  cols = s.cols;
  rows = s.rows;
  all = s.all;
  here = λ column clt lt. s.here column clt (omega (arith, clt, le));
  others = s.others;
}

-- a row that was all that there was to mend
pub row_mended : (g new : CellGrid) (y : ℕ) → AreMendedBut y g → HasMended y g.cols g new → new ≡ mended g
row_mended g new y but s =
    sym (mended-stay new s.full (λ column row clt rlt. pick column row (omega (arith, clt, s.cols)) (omega (arith, rlt, s.rows)) (nat_cases row y))) ∙ s.all
  where
    pick : (column row : ℕ) → column < g.cols → row < g.rows → ((row ≡ y) ⊎ (row ≡ y → ⊥)) → is_mended column row new ≡ true
    pick column row clt rlt (inl e) = ap (λ r. is_mended column r new) e ∙ s.here column clt clt
    pick column row clt rlt (inr other) = s.others column row clt rlt other ∙ but column row clt rlt other

-- ---- row after row

pub no_row : (g : CellGrid) → IsFull g → HasMendedRows 0 g g
no_row g full = record { full = full; cols = refl; rows = refl; all = refl; above = λ column row clt rlt lt. absurd (omega (arith, lt)) }

pub row_more : (g h new : CellGrid) (y : ℕ) → y < g.rows → HasMendedRows y g h → HasMended y h.cols h new → HasMendedRows (y + 1) g new
row_more g h new y ylt s m = record {
  full = m.full;
  cols = m.cols ∙ s.cols;
  rows = m.rows ∙ s.rows;
  all = m.all ∙ s.all;
  above = λ column row clt rlt lt. pick column row clt rlt lt (cases_lt row y);
}
  where
    pick : (column row : ℕ) → column < g.cols → row < g.rows → row < y + 1 → (row < y) ⊎ (y ≤ row) → is_mended column row new ≡ true
    pick column row clt rlt lt (inl low) = m.others column row (omega (arith, clt, s.cols)) (omega (arith, rlt, s.rows)) (λ e. omega (arith, e, low)) ∙ s.above column row clt rlt low
    pick column row clt rlt lt (inr high) =
        let e : row ≡ y = omega (arith, lt, high) in
        let in_cols : column < h.cols = omega (arith, clt, s.cols) in
        ap (λ r. is_mended column r new) e ∙ m.here column in_cols in_cols

pub all_rows : (g new : CellGrid) (y : ℕ) → g.rows ≤ y → HasMendedRows y g new → new ≡ mended g
all_rows g new y le s =
    sym (mended-stay new s.full (λ column row clt rlt. s.above column row (omega (arith, clt, s.cols)) (omega (arith, rlt, s.rows)) (omega (arith, rlt, s.rows, le)))) ∙ s.all

-- ---- the places beside an edit

pub both_mended : (g mid new : CellGrid) (y from to : ℕ) → IsFull g → y < g.rows → from ≤ g.cols → AreMendedBeside y from to g → mid ≡ mended_before from y g → new ≡ mended_behind to y mid → new ≡ mended g
both_mended g mid new y from to full ylt few beside before behind = behind ∙ (ap (mended_behind to y) before ∙ sym (two-mend g y from to full ylt few beside))

-- ---- nothing

pub full_of : (s : Inside) (g : CellGrid) → cells_of s ≡ g → IsHeld s → IsFull g
full_of s g is held = subst IsFull is held.size

-- where no half is noted
pub kept_whole : (s : Inside) (g : CellGrid) → cells_of s ≡ g → IsHeld s → s.halves ≡ false → g ≡ mended g
kept_whole s g is held none = sym (mended-stay g (full_of s g is held) (wholes-are-mended g (subst AreWhole is (held.wholes none))))
