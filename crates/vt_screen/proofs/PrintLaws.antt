-- What a character that is printed leaves, and where it leaves halves to mend.
use Rattle.std.proofs.Common.{◌≡◌, ℕ, ◌+◌, ◌-◌, ◌<◌, ◌≤◌, Bool, true, false, refl, ap, sym, ◌∙◌, subst, arith}
use Rattle.std.specs.Prelude.{◌==◌, ◌&&◌, nat_lt, if◌then◌else◌, Option, Some, None, unwrap_or}
use Rattle.std.proofs.lemmas.Bool.{eq-eqb, ne_eqb, lt-ltb}
use Rattle.std.proofs.lemmas.Bool.Decides.{nat_tests}
use Rattle.gate_model.specs.declared.cell.Cell.{Cell}
use Rattle.gate_model.specs.declared.cell.Half.TheVariants.{Left, Right}
use Rattle.gate_model.specs.declared.control.Control.TheVariants.{Print}
use Rattle.gate_model.specs.terminal.CellLaws.{IsFull}
use Rattle.gate_model.specs.terminal.Cells.{CellGrid, mended, put}
use Rattle.gate_model.specs.terminal.Cursor.{returned}
use Rattle.gate_model.specs.terminal.Editing.{characters_inserted}
use Rattle.gate_model.specs.terminal.Effects.{effect}
use Rattle.gate_model.specs.terminal.MendLaws.{AreMended, AreMendedBeside, AreMendedBut}
use Rattle.gate_model.specs.terminal.Pens.{drawn_with}
use Rattle.gate_model.specs.terminal.Printing.{fitting, given_room, is_wide, placed, printed, printed_as, width_of, wrapped}
use Rattle.gate_model.specs.terminal.Scrolling.{line_feed, scrolled_up}
use Rattle.gate_model.specs.terminal.Terminal.{Terminal}
use Rattle.gate_model.proofs.CellLaws.{inserted-by_cell, scrolled_up-by_cell}
use Rattle.gate_model.proofs.Mending.{mended-stay, put_beside, put_full}
use Rattle.gate_model.proofs.MendedEdits.{moved-mend, pair-mends, put-mends, rows-mend, scrolled-mend}
use Rattle.gate_model.proofs.Widths.{box-narrow}
use Rattle.vt_screen.specs.Printed.{columns_for, printed_at, span}
use Rattle.vt_screen.specs.Soundness.{IsFit}

-- ---- which character is printed, and how

pub record Prints (c : ℕ) (t : Terminal) (wide : Bool) (shown : ℕ) : Type 0 where
  pub state : printed c t ≡ printed_as wide shown t
  pub columns : printed_at c t ≡ Some (span wide t)

prints : (c : ℕ) (t : Terminal) (wide : Bool) (shown : ℕ) → (width_of c == 0) ≡ false → fitting t.grid.cols c ≡ shown → is_wide shown ≡ wide → Prints c t wide shown
prints c t wide shown some fits is =
    let s = fitting t.grid.cols c in
    let same : is_wide s ≡ wide = ap is_wide fits ∙ is in
    record {
      state =
          ap (λ (b : Bool). if b then t else printed_as (is_wide s) s t) some
          ∙ (ap (λ (b : Bool). printed_as b s t) same ∙ ap (λ k. printed_as wide k t) fits);
      columns = ap (λ (b : Bool). if b then None else Some (span (is_wide s) t)) some ∙ ap (λ (b : Bool). Some (span b t)) same;
    }

pub nothing_printed : (c : ℕ) (t : Terminal) → width_of c ≡ 0 → (printed c t ≡ t) × (printed_at c t ≡ None)
nothing_printed c t e =
    let none : (width_of c == 0) ≡ true = eq-eqb (width_of c) 0 e in
    let s = fitting t.grid.cols c in
    (ap (λ (b : Bool). if b then t else printed_as (is_wide s) s t) none, ap (λ (b : Bool). if b then None else Some (span (is_wide s) t)) none)

pub narrow_printed : (c : ℕ) (t : Terminal) → width_of c ≡ 1 → Prints c t false c
narrow_printed c t e =
    let narrow : is_wide c ≡ false = ap (nat_lt 1) e in
    prints c t false c (ap (λ n. n == 0) e) (ap (λ (b : Bool). if b && t.grid.cols == 1 then 0xFFFD else c) narrow) narrow

some_width : (n : ℕ) → 1 < n → (n == 0) ≡ false
some_width n lt = ne_eqb n 0 (λ e. omega (arith, lt, e))

pub box_printed : (c : ℕ) (t : Terminal) → 1 < width_of c → t.grid.cols ≡ 1 → Prints c t false 0xFFFD
box_printed c t lt one =
    prints c t false 0xFFFD (some_width (width_of c) lt)
    (ap (λ (b : Bool). if b && t.grid.cols == 1 then 0xFFFD else c) (lt-ltb 1 (width_of c) lt) ∙ ap (λ (b : Bool). if b then 0xFFFD else c) (eq-eqb t.grid.cols 1 one))
    (ap (nat_lt 1) box-narrow)

pub wide_printed : (c : ℕ) (t : Terminal) → 1 < width_of c → 2 ≤ t.grid.cols → Prints c t true c
wide_printed c t lt two =
    let wide : is_wide c ≡ true = lt-ltb 1 (width_of c) lt in
    prints c t true c (some_width (width_of c) lt)
    (ap (λ (b : Bool). if b && t.grid.cols == 1 then 0xFFFD else c) wide ∙ ap (λ (b : Bool). if b then 0xFFFD else c) (ne_eqb t.grid.cols 1 (λ e. omega (arith, two, e))))
    wide

-- a wide character has two columns
fitting_two : (columns c : ℕ) → 1 ≤ columns → is_wide (fitting columns c) ≡ true → 2 ≤ columns
fitting_two columns c some e = pick (is_wide c) (columns == 1) refl refl e
  where
    pick : (a b : Bool) → is_wide c ≡ a → (columns == 1) ≡ b → is_wide (if a && b then 0xFFFD else c) ≡ true → 2 ≤ columns
    pick true true f g e = absurd (let w : true ≡ false = sym e ∙ ap (nat_lt 1) box-narrow in cc)
    pick true false f g e = grind (arith, nat_tests)
    pick false b f g e = absurd (let w : true ≡ false = sym e ∙ f in cc)

-- ---- the state before its cells are put

-- what is known of it, beside the state that it came from
record IsReady (t u : Terminal) : Type 0 where
  full : IsFull u.grid
  mended : AreMended u.grid
  column : u.x < u.grid.cols
  row : u.y < u.grid.rows
  order : u.top ≤ u.bottom
  margins : u.bottom < u.grid.rows
  cols : u.grid.cols ≡ t.grid.cols
  modes : u.modes ≡ t.modes

first_ready : (t : Terminal) → IsFit t → AreMended t.grid → IsReady t t
first_ready t f m = record { full = f.full; mended = m; column = f.cursor.column; row = f.cursor.row; order = f.order; margins = f.margins; cols = refl; modes = refl }

returned_ready : (t u : Terminal) → IsReady t u → IsReady t (returned u)
returned_ready t u r = record { full = r.full; mended = r.mended; column = omega (arith, r.column); row = r.row; order = r.order; margins = r.margins; cols = r.cols; modes = r.modes }

up_ready : (t u : Terminal) → IsReady t u → IsReady t (scrolled_up 1 u)
up_ready t u r = record {
  full = (scrolled_up-by_cell u.grid u.top u.bottom 1 r.full r.order r.margins).full;
  mended = (scrolled-mend u.grid u.top u.bottom 1 r.full r.mended r.order r.margins).0;
  column = r.column;
  row = r.row;
  order = r.order;
  margins = r.margins;
  cols = r.cols;
  modes = r.modes;
}

feed_ready : (t u : Terminal) → IsReady t u → IsReady t (line_feed u)
feed_ready t u r = pick (u.y == u.bottom) (nat_lt (u.y + 1) u.grid.rows) refl
  where
    pick : (a b : Bool) → nat_lt (u.y + 1) u.grid.rows ≡ b → IsReady t (if a then scrolled_up 1 u else (if b then record u { y = u.y + 1 } else u))
    pick true b e = up_ready t u r
    pick false true e = record { full = r.full; mended = r.mended; column = r.column; row = grind (arith, nat_tests); order = r.order; margins = r.margins; cols = r.cols; modes = r.modes }
    pick false false e = r

feed_column : (u : Terminal) → ((line_feed u).x ≡ u.x) × ((line_feed u).grid.cols ≡ u.grid.cols)
feed_column u = pick (u.y == u.bottom) (nat_lt (u.y + 1) u.grid.rows)
  where
    pick : (a b : Bool) → let v = (if a then scrolled_up 1 u else (if b then record u { y = u.y + 1 } else u)) in (v.x ≡ u.x) × (v.grid.cols ≡ u.grid.cols)
    pick true b = (refl, refl)
    pick false true = (refl, refl)
    pick false false = (refl, refl)

wrapped_ready : (t : Terminal) → IsReady t t → IsReady t (wrapped t)
wrapped_ready t r = pick t.pending
  where
    pick : (b : Bool) → IsReady t (if b then line_feed (returned t) else t)
    pick true = feed_ready t (returned t) (returned_ready t t r)
    pick false = r

-- .. with room for the two cells of a wide one
record HasRoom (wide : Bool) (t u : Terminal) : Type 0 where
  ready : IsReady t u
  room : wide ≡ true → u.x + 1 < u.grid.cols

given_ready : (wide : Bool) (t u : Terminal) → IsReady t u → (wide ≡ true → 2 ≤ u.grid.cols) → HasRoom wide t (given_room wide u)
given_ready false t u r two = record { ready = r; room = λ e. absurd (let w : false ≡ true = e in cc) }
given_ready true t u r two = pick (u.x + 1 == u.grid.cols) u.modes.wrap refl
  where
    pick : (b w : Bool) → (u.x + 1 == u.grid.cols) ≡ b → HasRoom true t (if b then (if w then line_feed (returned u) else record u { x = u.x - 1 }) else u)
    pick false w e = record { ready = r; room = λ q. let lt = r.column in grind (arith, nat_tests) }
    pick true true e = let at = feed_column (returned u) in record { ready = feed_ready t (returned u) (returned_ready t u r); room = λ q. omega (arith, at.0, at.1, two refl) }
    pick true false e =
        let end : u.x + 1 ≡ u.grid.cols = grind (arith, nat_tests) in
        record {
          ready = record { full = r.full; mended = r.mended; column = omega (arith, r.column); row = r.row; order = r.order; margins = r.margins; cols = r.cols; modes = r.modes };
          room = λ q. omega (arith, end, two refl);
        }

roomy : (wide : Bool) (t : Terminal) → IsFit t → AreMended t.grid → (wide ≡ true → 2 ≤ t.grid.cols) → HasRoom wide t (given_room wide (wrapped t))
roomy wide t f m two = let r = wrapped_ready t (first_ready t f m) in given_ready wide t (wrapped t) r (λ e. omega (arith, two e, r.cols))

-- ---- what is left to mend

-- beside the cells, where no other cells move
placed_beside : (wide : Bool) (s : ℕ) (t v : Terminal) → HasRoom wide t v → AreMendedBeside (placed wide s v).y v.x (v.x + columns_for wide) (placed wide s v).grid
placed_beside false s t v h = let r = h.ready in put-mends v.grid v.x v.y (drawn_with v.pen s) r.full r.mended r.column r.row refl
placed_beside true s t v h = let r = h.ready in pair-mends v.grid v.x v.y (drawn_with v.pen s) r.full r.mended (h.room refl) r.row

-- in the row, where they do
put_but : (g : CellGrid) (x y : ℕ) (cell : Cell) → IsFull g → x < g.cols → y < g.rows → AreMendedBut y g → AreMendedBut y (put x y cell g)
put_but g x y cell full xlt ylt but = rows-mend g (put x y cell g) y but refl refl (λ column row clt rlt other. put_beside g x y cell column row full xlt ylt clt rlt (λ e f. other f))

placed_but : (wide : Bool) (s : ℕ) (v : Terminal) → IsFull v.grid → v.x < v.grid.cols → (wide ≡ true → v.x + 1 < v.grid.cols) → v.y < v.grid.rows → AreMendedBut v.y v.grid → AreMendedBut (placed wide s v).y (placed wide s v).grid
placed_but false s v full xlt room ylt but = put_but v.grid v.x v.y (drawn_with v.pen s) full xlt ylt but
placed_but true s v full xlt room ylt but =
    let left : Cell = record (drawn_with v.pen s) { half = Left } in
    put_but (put v.x v.y left v.grid) (v.x + 1) v.y (record (drawn_with v.pen s) { half = Right }) (put_full v.grid v.x v.y left full) (room refl) ylt (put_but v.grid v.x v.y left full xlt ylt but)

inserted_but : (wide : Bool) (s : ℕ) (t u : Terminal) → HasRoom wide t u → let v = characters_inserted (columns_for wide) u in AreMendedBut (placed wide s v).y (placed wide s v).grid
inserted_but wide s t u h =
    let r = h.ready in
    let n = columns_for wide in
    placed_but wide s (characters_inserted n u) (inserted-by_cell u.grid u.x u.y n r.full r.column r.row).full r.column h.room r.row (moved-mend u.grid u.x u.y n r.full r.mended r.column r.row).0

-- ---- for a character that is printed in columns

pub record IsPrinted (new : Terminal) (from to : ℕ) : Type 0 where
  pub column : from ≤ new.grid.cols
  pub beside : new.modes.insert ≡ false → AreMendedBeside new.y from to new.grid
  pub line : new.modes.insert ≡ true → AreMendedBut new.y new.grid

as_printed : (wide : Bool) (s : ℕ) (t : Terminal) → IsFit t → AreMended t.grid → (wide ≡ true → 2 ≤ t.grid.cols) → IsPrinted (printed_as wide s t) (span wide t).0 (span wide t).1
as_printed wide s t f m two = pick u.modes.insert refl
  where
    u : Terminal
    u = given_room wide (wrapped t)

    h : HasRoom wide t u
    h = roomy wide t f m two

    pick : (b : Bool) → u.modes.insert ≡ b → let v = (if b then characters_inserted (columns_for wide) u else u) in IsPrinted (placed wide s v) v.x (v.x + columns_for wide)
    pick false e = record {
      column = placed_columns wide u (omega (arith, h.ready.column));
      beside = λ q. placed_beside wide s t u h;
      line = λ q. absurd (let w : true ≡ false = sym (placed_insert wide u q) ∙ e in cc);
    }
      where
        placed_columns : (w : Bool) (v : Terminal) → v.x ≤ v.grid.cols → v.x ≤ (placed w s v).grid.cols
        placed_columns true v le = le
        placed_columns false v le = le

        placed_insert : (w : Bool) (v : Terminal) → (placed w s v).modes.insert ≡ true → v.modes.insert ≡ true
        placed_insert w v q = q
    pick true e = record {
      column = placed_columns wide (characters_inserted (columns_for wide) u) (omega (arith, h.ready.column));
      beside = λ q. absurd (let w : false ≡ true = sym (placed_insert wide (characters_inserted (columns_for wide) u) q) ∙ e in cc);
      line = λ q. inserted_but wide s t u h;
    }
      where
        placed_columns : (w : Bool) (v : Terminal) → v.x ≤ v.grid.cols → v.x ≤ (placed w s v).grid.cols
        placed_columns true v le = le
        placed_columns false v le = le

        placed_insert : (w : Bool) (v : Terminal) → (placed w s v).modes.insert ≡ false → v.modes.insert ≡ false
        placed_insert w v q = q

-- a character of some columns
printed_left : (c from to : ℕ) (t : Terminal) → IsFit t → AreMended t.grid → printed_at c t ≡ Some (from, to) → IsPrinted (printed c t) from to
printed_left c from to t f m is = pick (width_of c == 0) refl is
  where
    s : ℕ
    s = fitting t.grid.cols c

    wide : Bool
    wide = is_wide s

    two : wide ≡ true → 2 ≤ t.grid.cols
    two e = fitting_two t.grid.cols c f.size.some_columns e

    pick : (b : Bool) → (width_of c == 0) ≡ b → (if b then None else Some (span wide t)) ≡ Some (from, to) → IsPrinted (if b then t else printed_as wide s t) from to
    pick true e q = absurd (let w : None ≡ Some (from, to) = q in cc)
    pick false e q =
        let pair : span wide t ≡ (from, to) = ap (λ o. unwrap_or o (0, 0)) q in
        subst (λ (p : ℕ × ℕ). IsPrinted (printed_as wide s t) p.0 p.1) pair (as_printed wide s t f m two)

pub left_printed : (c from to : ℕ) (t new : Terminal) (at : Option (ℕ × ℕ)) → IsFit t → AreMended t.grid → new ≡ printed c t → at ≡ printed_at c t → at ≡ Some (from, to) → IsPrinted new from to
left_printed c from to t new at f m is columns some = subst (λ (u : Terminal). IsPrinted u from to) (sym is) (printed_left c from to t f m (sym columns ∙ some))

-- a character of none
pub none_printed : (c : ℕ) (t : Terminal) → printed_at c t ≡ None → printed c t ≡ t
none_printed c t is = pick (width_of c == 0) is
  where
    s : ℕ
    s = fitting t.grid.cols c

    pick : (b : Bool) → (if b then None else Some (span (is_wide s) t)) ≡ None → (if b then t else printed_as (is_wide s) s t) ≡ t
    pick true q = refl
    pick false q = absurd (let w : Some (span (is_wide s) t) ≡ None = q in cc)

pub none_effect : (c : ℕ) (t new : Terminal) → IsFull t.grid → AreMended t.grid → new ≡ printed c t → printed_at c t ≡ None → new ≡ effect (Print c) t
none_effect c t new full m is none =
    let same : printed c t ≡ t = none_printed c t none in
    is ∙ (same ∙ sym (ap (λ (u : Terminal). record u { grid = mended u.grid }) same ∙ ap (λ (g : CellGrid). record t { grid = g }) (mended-stay t.grid full m)))
