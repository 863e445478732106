-- A whole cell may be put before or after all others are mended.
use Rattle.std.proofs.Common.{◌≡◌, ℕ, ◌+◌, ◌-◌, ◌<◌, ◌≤◌, Bool, true, false, ◌⊎◌, inl, inr, refl, ap, sym, ◌∙◌, arith, ⊎_elim}
use Rattle.std.specs.Prelude.{◌&&◌, ◌==◌, nat_le, nat_lt, if◌then◌else◌}
use Rattle.std.proofs.lemmas.Bool.{cases_Bool}
use Rattle.std.proofs.lemmas.Bool.Decides.{nat_tests}
use Rattle.gate_model.specs.declared.cell.Cell.{Cell}
use Rattle.gate_model.specs.declared.cell.Half.{Half}
use Rattle.gate_model.specs.declared.cell.Half.TheVariants.{Whole, Left, Right}
use Rattle.gate_model.specs.terminal.CellLaws.{IsFull}
use Rattle.gate_model.specs.terminal.Cells.{CellGrid, cell_at, put, left_half, right_half, stands, is_mended, spaced, mended_cell, mended}
use Rattle.gate_model.specs.terminal.MendLaws.{PutsMend}
use Rattle.gate_model.proofs.Mending.{nat_cases, same_cells, mended_full, mended_place, stands_same, put_here, put_beside, left_paired, right_paired}

-- a cell that is no left half, or no right half, beside a half leaves it without its other half
stands_whole : (cols x : ℕ) (a d b c : Cell) (ch : ℕ) (half : Half) → stands cols x a ch d half ≡ false → (b ≡ a) ⊎ (b.half ≡ Whole) → (c ≡ d) ⊎ (c.half ≡ Whole) → stands cols x b ch c half ≡ false
stands_whole cols x a d b c ch Whole is before behind = is
stands_whole cols x a d b c ch Left is before behind = elim behind [
  | inl e ↦ ap (λ (k : Cell). nat_lt (x + 1) cols && (right_half k.half && ch == k.ch)) e ∙ is
  | inr w ↦ ap (λ (h : Half). nat_lt (x + 1) cols && (right_half h && ch == c.ch)) w ∙ never (nat_lt (x + 1) cols)
]
  where
    never : (k : Bool) → (k && false) ≡ false
    never true = refl
    never false = refl
stands_whole cols x a d b c ch Right is before behind = elim before [
  | inl e ↦ ap (λ (k : Cell). nat_le 1 x && (left_half k.half && k.ch == ch)) e ∙ is
  | inr w ↦ ap (λ (h : Half). nat_le 1 x && (left_half h && b.ch == ch)) w ∙ never (nat_le 1 x)
]
  where
    never : (k : Bool) → (k && false) ≡ false
    never true = refl
    never false = refl

-- a cell of a grid in which a whole one was put: that one, or as it was
put_either : (g : CellGrid) (x y : ℕ) (cell : Cell) (column row : ℕ) → IsFull g → x < g.cols → y < g.rows → column < g.cols → row < g.rows → cell.half ≡ Whole
    → (cell_at column row (put x y cell g) ≡ cell_at column row g) ⊎ ((cell_at column row (put x y cell g)).half ≡ Whole)
put_either g x y cell column row full xlt ylt clt rlt whole = pick (nat_cases column x) (nat_cases row y)
  where
    pick : ((column ≡ x) ⊎ (column ≡ x → ⊥)) → ((row ≡ y) ⊎ (row ≡ y → ⊥)) → (cell_at column row (put x y cell g) ≡ cell_at column row g) ⊎ ((cell_at column row (put x y cell g)).half ≡ Whole)
    pick (inl e) (inl f) = inr (ap (λ (k : Cell). k.half) (ap (λ c. cell_at c row (put x y cell g)) e ∙ (ap (λ r. cell_at x r (put x y cell g)) f ∙ put_here g x y cell full xlt ylt)) ∙ whole)
    pick (inr a) q = inl (put_beside g x y cell column row full xlt ylt clt rlt (λ e f. a e))
    pick (inl e) (inr b) = inl (put_beside g x y cell column row full xlt ylt clt rlt (λ f r. b r))

module _ (g : CellGrid) (x y : ℕ) (cell : Cell) (full : IsFull g) (xlt : x < g.cols) (ylt : y < g.rows) (whole : cell.half ≡ Whole) where
  abbrev p : CellGrid
  p = put x y cell g

  abbrev q : CellGrid
  q = put x y cell (mended g)

  -- a place that isn't the one that was put
  beside_p : (column row : ℕ) → column < g.cols → row < g.rows → (column ≡ x → row ≡ y → ⊥) → cell_at column row p ≡ cell_at column row g
  beside_p column row clt rlt apart = put_beside g x y cell column row full xlt ylt clt rlt apart

  beside_q : (column row : ℕ) → column < g.cols → row < g.rows → (column ≡ x → row ≡ y → ⊥) → cell_at column row q ≡ mended_cell column row g
  beside_q column row clt rlt apart = put_beside (mended g) x y cell column row (mended_full g) xlt ylt clt rlt apart ∙ mended_place g column row clt rlt

  -- where the neighbour is mended, both grids have the same one
  same_beside : (column row : ℕ) → column < g.cols → row < g.rows → is_mended column row g ≡ true → cell_at column row q ≡ cell_at column row p
  same_beside column row clt rlt is = pick (nat_cases column x) (nat_cases row y)
    where
      away : (column ≡ x → row ≡ y → ⊥) → cell_at column row q ≡ cell_at column row p
      away apart = beside_q column row clt rlt apart ∙ (rw is refl ∙ sym (beside_p column row clt rlt apart))

      pick : ((column ≡ x) ⊎ (column ≡ x → ⊥)) → ((row ≡ y) ⊎ (row ≡ y → ⊥)) → cell_at column row q ≡ cell_at column row p
      pick (inl e) (inl f) =
          ap (λ c. cell_at c row q) e ∙ (ap (λ r. cell_at x r q) f ∙ (put_here (mended g) x y cell (mended_full g) xlt ylt
          ∙ sym (ap (λ c. cell_at c row p) e ∙ (ap (λ r. cell_at x r p) f ∙ put_here g x y cell full xlt ylt))))
      pick (inr a) r = away (λ e f. a e)
      pick (inl e) (inr b) = away (λ f r. b r)

  -- a mended cell stands as it did in both
  as_mended : (column row : ℕ) → column < g.cols → row < g.rows → (column ≡ x → row ≡ y → ⊥) → is_mended column row g ≡ true → mended_cell column row q ≡ mended_cell column row p
  as_mended column row clt rlt apart is =
      ap (λ (b : Bool). if b then cell_at column row q else spaced (cell_at column row q)) status ∙ ap (λ (k : Cell). if is_mended column row p then k else spaced k) (same_beside column row clt rlt is)
    where
      k : Cell
      k = cell_at column row g

      k_p : cell_at column row p ≡ k
      k_p = beside_p column row clt rlt apart

      k_q : cell_at column row q ≡ k
      k_q = beside_q column row clt rlt apart ∙ rw is refl

      by_half : (h : Half) → k.half ≡ h → stands g.cols column (cell_at (column - 1) row q) k.ch (cell_at (column + 1) row q) k.half ≡ stands g.cols column (cell_at (column - 1) row p) k.ch (cell_at (column + 1) row p) k.half
      by_half Whole e = ap (stands g.cols column (cell_at (column - 1) row q) k.ch (cell_at (column + 1) row q)) e ∙ sym (ap (stands g.cols column (cell_at (column - 1) row p) k.ch (cell_at (column + 1) row p)) e)
      by_half Left e =
          ap (stands g.cols column (cell_at (column - 1) row q) k.ch (cell_at (column + 1) row q)) e
          ∙ (by_room (nat_lt (column + 1) g.cols) refl
          ∙ sym (ap (stands g.cols column (cell_at (column - 1) row p) k.ch (cell_at (column + 1) row p)) e))
        where
          by_room : (r : Bool) → nat_lt (column + 1) g.cols ≡ r
              → (r && (right_half (cell_at (column + 1) row q).half && k.ch == (cell_at (column + 1) row q).ch)) ≡ (r && (right_half (cell_at (column + 1) row p).half && k.ch == (cell_at (column + 1) row p).ch))
          by_room false f = refl
          by_room true f =
              let room : column + 1 < g.cols = grind (arith, nat_tests) in
              let back : column + 1 - 1 ≡ column = omega arith in
              let there : is_mended (column + 1) row g ≡ true =
              ap (λ c. stands g.cols (column + 1) (cell_at c row g) (cell_at (column + 1) row g).ch (cell_at (column + 1 + 1) row g) (cell_at (column + 1) row g).half) back
              ∙ left_paired g.cols column (cell_at (column - 1) row g) k (cell_at (column + 1) row g) is e (cell_at (column + 1 + 1) row g) room in
              ap (λ (d : Cell). true && (right_half d.half && k.ch == d.ch)) (same_beside (column + 1) row room rlt there)
      by_half Right e =
          ap (stands g.cols column (cell_at (column - 1) row q) k.ch (cell_at (column + 1) row q)) e
          ∙ (by_low (nat_le 1 column) refl
          ∙ sym (ap (stands g.cols column (cell_at (column - 1) row p) k.ch (cell_at (column + 1) row p)) e))
        where
          by_low : (r : Bool) → nat_le 1 column ≡ r
              → (r && (left_half (cell_at (column - 1) row q).half && (cell_at (column - 1) row q).ch == k.ch)) ≡ (r && (left_half (cell_at (column - 1) row p).half && (cell_at (column - 1) row p).ch == k.ch))
          by_low false f = refl
          by_low true f =
              let some : 1 ≤ column = grind (arith, nat_tests) in
              let next : column - 1 + 1 ≡ column = omega (arith, some) in
              let here : stands g.cols (column - 1 + 1) (cell_at (column - 1) row g) k.ch (cell_at (column + 1) row g) k.half ≡ true = ap (λ c. stands g.cols c (cell_at (column - 1) row g) k.ch (cell_at (column + 1) row g) k.half) next ∙ is in
              let there : is_mended (column - 1) row g ≡ true =
              ap (λ c. stands g.cols (column - 1) (cell_at (column - 1 - 1) row g) (cell_at (column - 1) row g).ch (cell_at c row g) (cell_at (column - 1) row g).half) next
              ∙ right_paired g.cols (column - 1) (cell_at (column - 1) row g) k (cell_at (column + 1) row g) here e (cell_at (column - 1 - 1) row g) (omega (arith, next, clt)) in
              ap (λ (d : Cell). true && (left_half d.half && d.ch == k.ch)) (same_beside (column - 1) row (omega (arith, clt)) rlt there)

      status : is_mended column row q ≡ is_mended column row p
      status =
          ap (λ (c : Cell). stands g.cols column (cell_at (column - 1) row q) c.ch (cell_at (column + 1) row q) c.half) k_q
          ∙ (by_half k.half refl ∙ sym (ap (λ (c : Cell). stands g.cols column (cell_at (column - 1) row p) c.ch (cell_at (column + 1) row p) c.half) k_p))

  -- and one that isn't becomes a space in both
  as_space : (column row : ℕ) → column < g.cols → row < g.rows → (column ≡ x → row ≡ y → ⊥) → is_mended column row g ≡ false → mended_cell column row q ≡ mended_cell column row p
  as_space column row clt rlt apart is =
      let k = cell_at column row g in
      let k_p = beside_p column row clt rlt apart in
      let k_q : cell_at column row q ≡ spaced k = beside_q column row clt rlt apart ∙ rw is refl in
      let fine : is_mended column row q ≡ true = ap (λ (c : Cell). stands g.cols column (cell_at (column - 1) row q) c.ch (cell_at (column + 1) row q) c.half) k_q in
      let broken : is_mended column row p ≡ false =
      ap (λ (c : Cell). stands g.cols column (cell_at (column - 1) row p) c.ch (cell_at (column + 1) row p) c.half) k_p
      ∙ by_room (nat_lt (column + 1) g.cols) refl in
      ap (λ (b : Bool). if b then cell_at column row q else spaced (cell_at column row q)) fine ∙ (k_q ∙ sym (ap (λ (b : Bool). if b then cell_at column row p else spaced (cell_at column row p)) broken ∙ ap spaced k_p))
    where
      before : (cell_at (column - 1) row p ≡ cell_at (column - 1) row g) ⊎ ((cell_at (column - 1) row p).half ≡ Whole)
      before = put_either g x y cell (column - 1) row full xlt ylt (omega (arith, clt)) rlt whole

      by_room : (r : Bool) → nat_lt (column + 1) g.cols ≡ r
          → stands g.cols column (cell_at (column - 1) row p) (cell_at column row g).ch (cell_at (column + 1) row p) (cell_at column row g).half ≡ false
      by_room true e = let room : column + 1 < g.cols = grind (arith, nat_tests) in
          stands_whole g.cols column (cell_at (column - 1) row g) (cell_at (column + 1) row g) (cell_at (column - 1) row p) (cell_at (column + 1) row p) (cell_at column row g).ch (cell_at column row g).half is before (put_either g x y cell (column + 1) row full xlt ylt room rlt whole)
      by_room false e =
          stands_same g.cols column (cell_at (column - 1) row p) (cell_at (column - 1) row p) (cell_at (column + 1) row g) (cell_at (column + 1) row p) (cell_at column row g).ch (cell_at column row g).half (λ some. refl) (λ room. absurd (let out : g.cols ≤ column + 1 = grind (arith, nat_tests) in omega (arith, out, room)))
          ∙ stands_whole g.cols column (cell_at (column - 1) row g) (cell_at (column + 1) row g) (cell_at (column - 1) row p) (cell_at (column + 1) row g) (cell_at column row g).ch (cell_at column row g).half is before (inl refl)

  puts_cell : (column row : ℕ) → column < g.cols → row < g.rows → mended_cell column row q ≡ mended_cell column row p
  puts_cell column row clt rlt = pick (nat_cases column x) (nat_cases row y)
    where
      whole_here : (h : CellGrid) → cell_at x y h ≡ cell → mended_cell x y h ≡ cell
      whole_here h is =
          let fine : is_mended x y h ≡ true = ap (λ (c : Cell). stands h.cols x (cell_at (x - 1) y h) c.ch (cell_at (x + 1) y h) c.half) is ∙ ap (stands h.cols x (cell_at (x - 1) y h) cell.ch (cell_at (x + 1) y h)) whole in
          ap (λ (b : Bool). if b then cell_at x y h else spaced (cell_at x y h)) fine ∙ is

      away : (column ≡ x → row ≡ y → ⊥) → mended_cell column row q ≡ mended_cell column row p
      away apart = ⊎_elim
          (λ (yes_ : is_mended column row g ≡ true). as_mended column row clt rlt apart yes_)
          (λ (no_ : is_mended column row g ≡ false). as_space column row clt rlt apart no_)
          (cases_Bool (is_mended column row g))

      pick : ((column ≡ x) ⊎ (column ≡ x → ⊥)) → ((row ≡ y) ⊎ (row ≡ y → ⊥)) → mended_cell column row q ≡ mended_cell column row p
      pick (inl e) (inl f) =
          ap (λ c. mended_cell c row q) e ∙ (ap (λ r. mended_cell x r q) f ∙ (whole_here q (put_here (mended g) x y cell (mended_full g) xlt ylt)
          ∙ sym (ap (λ c. mended_cell c row p) e ∙ (ap (λ r. mended_cell x r p) f ∙ whole_here p (put_here g x y cell full xlt ylt)))))
      pick (inr a) r = away (λ e f. a e)
      pick (inl e) (inr b) = away (λ f r. b r)

pub puts-mend : PutsMend
puts-mend g x y cell full xlt ylt whole = same_cells (mended (put x y cell g)) (mended (put x y cell (mended g))) refl refl (mended_full (put x y cell g)) (mended_full (put x y cell (mended g)))
    (λ column row clt rlt. mended_place (put x y cell (mended g)) column row clt rlt ∙ (puts_cell g x y cell full xlt ylt whole column row clt rlt ∙ sym (mended_place (put x y cell g) column row clt rlt)))
