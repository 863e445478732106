-- What control functions leave to mend of a screen on which no half is without its other half.
use Rattle.std.proofs.Common.{◌≡◌, ℕ, ◌+◌, ◌*◌, ◌≤◌, Bool, true, false, refl, ap, sym, ◌∙◌, subst, arith}
use Rattle.std.specs.Prelude.{◌==◌, nat_lt, min, if◌then◌else◌}
use Rattle.std.specs.Int.{is_in_range}
use Rattle.std.proofs.lemmas.Bool.Decides.{nat_tests}
use Rattle.std.proofs.lemmas.List.Elements.{All-replicate}
use Rattle.gate_model.specs.declared.cell.Cell.{Cell}
use Rattle.gate_model.specs.declared.cell.Half.TheVariants.{Whole}
use Rattle.gate_model.specs.declared.control.Control.{Control}
use Rattle.gate_model.specs.declared.control.Control.TheVariants.{Code, Esc, Csi}
use Rattle.gate_model.specs.declared.control.Params.{Params}
use Rattle.gate_model.specs.terminal.Arguments.{first_amount, first_choice}
use Rattle.gate_model.specs.terminal.CellLaws.{IsFull}
use Rattle.gate_model.specs.terminal.Cells as cells
use Rattle.gate_model.specs.terminal.Cells.{CellGrid, blank, blank_grid, erased, mended}
use Rattle.gate_model.specs.terminal.Cursor.{returned}
use Rattle.gate_model.specs.terminal.Editing.{characters_deleted, characters_erased, characters_inserted, line_erased}
use Rattle.gate_model.specs.terminal.Effects.{acted, code_effect, cursor_effect, editing_effect, effect, escape_effect, private_effect, reset, sequence_effect}
use Rattle.gate_model.specs.terminal.MendLaws.{AreMended, AreMendedBeside, AreMendedBut}
use Rattle.gate_model.specs.terminal.Scrolling.{are_margins, is_within, line_feed, lines_deleted, lines_inserted, reverse_line_feed, scrolled_down, scrolled_up, with_margins}
use Rattle.gate_model.specs.declared.faces.Faces.{Faces}
use Rattle.gate_model.specs.terminal.Terminal.{Terminal, opening_screen}
use Rattle.gate_model.proofs.Mending.{all-are-mended, mended-stay, wholes-are-mended}
use Rattle.gate_model.proofs.MendedEdits.{erased-mends, moved-mend, scrolled-mend}
use Rattle.vt_screen.specs.Reach.{reach}
use Rattle.vt_screen.specs.Soundness.{IsFit}
use Rattle.vt_screen.specs.declared.reach.Reach.{Reach}
use Rattle.vt_screen.specs.declared.reach.Reach.TheVariants.{Nothing, Line, All}

-- ---- nothing

pub record IsMended (t : Terminal) : Type 0 where
  pub grid : AreMended t.grid

either : (b : Bool) (s t : Terminal) → IsMended s → IsMended t → IsMended (if b then s else t)
either true s t k l = k
either false s t k l = l

returned_fit : (t : Terminal) → IsFit t → IsFit (returned t)
returned_fit t f = record { size = f.size; full = f.full; cursor = record { column = omega (arith, f.size.some_columns); row = f.cursor.row }; order = f.order; margins = f.margins }

up_mended : (n : ℕ) (t : Terminal) → IsFit t → IsMended t → IsMended (scrolled_up n t)
up_mended n t f m = record { grid = (scrolled-mend t.grid t.top t.bottom n f.full m.grid f.order f.margins).0 }

down_mended : (n : ℕ) (t : Terminal) → IsFit t → IsMended t → IsMended (scrolled_down n t)
down_mended n t f m = record { grid = (scrolled-mend t.grid t.top t.bottom n f.full m.grid f.order f.margins).1 }

feed_mended : (t : Terminal) → IsFit t → IsMended t → IsMended (line_feed t)
feed_mended t f m = either (t.y == t.bottom) _ _ (up_mended 1 t f m) (either (nat_lt (t.y + 1) t.grid.rows) _ _ record { grid = m.grid } m)

feed_back_mended : (t : Terminal) → IsFit t → IsMended t → IsMended (reverse_line_feed t)
feed_back_mended t f m = either (t.y == t.top) _ _ (down_mended 1 t f m) record { grid = m.grid }

code_mended : (code : ℕ) (t : Terminal) → IsFit t → IsMended t → IsMended (code_effect code t)
code_mended code t f m =
    either (code == 0x08) _ _ record { grid = m.grid } (
    either (code == 0x09) _ _ record { grid = m.grid } (
    either (is_in_range 0x0A 0x0C code) _ _ (feed_mended t f m) (
    either (code == 0x0D) _ _ record { grid = m.grid } m)))

reset_mended : (t : Terminal) → IsMended (reset t)
reset_mended t = record { grid = wholes-are-mended (blank_grid t.grid.cols t.grid.rows) (All-replicate (λ (cell : Cell). cell.half ≡ Whole) (t.grid.rows * t.grid.cols) blank refl) }

escape_mended : (last : ℕ) (t : Terminal) → IsFit t → IsMended t → IsMended (escape_effect last t)
escape_mended last t f m =
    either (last == 0x37) _ _ record { grid = m.grid } (
    either (last == 0x38) _ _ record { grid = m.grid } (
    either (last == 0x45) _ _ (feed_mended (returned t) (returned_fit t f) record { grid = m.grid }) (
    either (last == 0x48) _ _ record { grid = m.grid } (
    either (last == 0x4D) _ _ (feed_back_mended t f m) (
    either (last == 0x63) _ _ (reset_mended t) m)))))

private_mended : (p : Params) (last : ℕ) (t : Terminal) → IsMended t → IsMended (private_effect p last t)
private_mended p last t m =
    either (last == 0x68) _ _ record { grid = m.grid } (
    either (last == 0x6C) _ _ record { grid = m.grid } m)

cursor_mended : (p : Params) (last : ℕ) (t : Terminal) → IsMended t → IsMended (cursor_effect p last t)
cursor_mended p last t m =
    either (last == 0x41) _ _ record { grid = m.grid } (
    either (last == 0x42) _ _ record { grid = m.grid } (
    either (last == 0x43) _ _ record { grid = m.grid } (
    either (last == 0x44) _ _ record { grid = m.grid } (
    either (last == 0x45) _ _ record { grid = m.grid } (
    either (last == 0x46) _ _ record { grid = m.grid } (
    either (last == 0x47) _ _ record { grid = m.grid } (
    either (last == 0x48) _ _ record { grid = m.grid } (
    either (last == 0x49) _ _ record { grid = m.grid } (
    either (last == 0x5A) _ _ record { grid = m.grid } (
    either (last == 0x64) _ _ record { grid = m.grid } (
    either (last == 0x66) _ _ record { grid = m.grid } m)))))))))))

-- the lines from the cursor's to the bottom margin
inserted_mended : (n : ℕ) (t : Terminal) → IsFit t → IsMended t → IsMended (lines_inserted n t)
inserted_mended n t f m = pick (is_within t) refl
  where
    pick : (b : Bool) → is_within t ≡ b → IsMended (if b then record t { grid = cells.scrolled_down t.y t.bottom n t.grid; x = 0 } else t)
    pick true e = let below : t.y ≤ t.bottom = grind (arith, nat_tests) in record { grid = (scrolled-mend t.grid t.y t.bottom n f.full m.grid below f.margins).1 }
    pick false e = m

deleted_mended : (n : ℕ) (t : Terminal) → IsFit t → IsMended t → IsMended (lines_deleted n t)
deleted_mended n t f m = pick (is_within t) refl
  where
    pick : (b : Bool) → is_within t ≡ b → IsMended (if b then record t { grid = cells.scrolled_up t.y t.bottom n t.grid; x = 0 } else t)
    pick true e = let below : t.y ≤ t.bottom = grind (arith, nat_tests) in record { grid = (scrolled-mend t.grid t.y t.bottom n f.full m.grid below f.margins).0 }
    pick false e = m

-- ---- the cursor's line

pub record IsMendedBut (t : Terminal) : Type 0 where
  pub line : AreMendedBut t.y t.grid

but_either : (b : Bool) (s t : Terminal) → IsMendedBut s → IsMendedBut t → IsMendedBut (if b then s else t)
but_either true s t k l = k
but_either false s t k l = l

but_beside : (y from to : ℕ) (g : CellGrid) → AreMendedBeside y from to g → AreMendedBut y g
but_beside y from to g b column row clt rlt other = b column row clt rlt (λ e f. other e) (λ e f. other e)

but_of : (t : Terminal) → IsMended t → IsMendedBut t
but_of t m = record { line = λ column row clt rlt other. m.grid column row clt rlt }

erased_but : (t : Terminal) (from to : ℕ) → IsFit t → IsMended t → from ≤ to → to ≤ t.grid.cols → IsMendedBut (record t { grid = erased t.y from to t.grid })
erased_but t from to f m order within = record { line = but_beside t.y from to (erased t.y from to t.grid) (erased-mends t.grid t.y from to f.full m.grid f.cursor.row order within) }

line_erased_but : (which : ℕ) (t : Terminal) → IsFit t → IsMended t → IsMendedBut (line_erased which t)
line_erased_but which t f m =
    but_either (which == 0) _ _ (erased_but t t.x t.grid.cols f m (omega (arith, f.cursor.column)) (omega arith)) (
    but_either (which == 1) _ _ (erased_but t 0 (t.x + 1) f m (omega arith) (omega (arith, f.cursor.column))) (
    but_either (which == 2) _ _ (erased_but t 0 t.grid.cols f m (omega arith) (omega arith)) (but_of t m)))

-- ---- by the reach of a control sequence

-- what may be left by a sequence of this reach
abbrev pub LeftBy : Reach → Terminal → Type 0
LeftBy Nothing t = AreMended t.grid
LeftBy Line t = AreMendedBut t.y t.grid
LeftBy All t = Unit {0}

pub record Leaves (r : Reach) (t : Terminal) : Type 0 where
  pub left : LeftBy r t

-- a state that is mended may be left by any
any : (r : Reach) (t : Terminal) → IsMended t → Leaves r t
any Nothing t m = record { left = m.grid }
any Line t m = record { left = (but_of t m).line }
any All t m = record { left = tt }

equal : (a b : ℕ) → (a == b) ≡ true → a ≡ b
equal a b e = grind (arith, nat_tests)

module _ (p : Params) (last : ℕ) (t : Terminal) (f : IsFit t) (m : IsMended t) where
  by_test : (b : Bool) (s u : Terminal) → (b ≡ true → Leaves (reach false last) s) → Leaves (reach false last) u → Leaves (reach false last) (if b then s else u)
  by_test true s u k l = k refl
  by_test false s u k l = l

  free : (s : Terminal) → IsMended s → Leaves (reach false last) s
  free s k = any (reach false last) s k

  -- the sequence with this final byte
  at_byte : (k : ℕ) (r : Reach) (s : Terminal) → (last == k) ≡ true → reach false k ≡ r → LeftBy r s → Leaves (reach false last) s
  at_byte k r s e is l = subst (λ q. Leaves q s) (sym (ap (reach false) (equal last k e) ∙ is)) record { left = l }

  editing_left : Leaves (reach false last) (editing_effect p last t)
  editing_left =
      by_test (last == 0x40) _ _ (λ e. at_byte 0x40 Line (characters_inserted (first_amount p) t) e refl (moved-mend t.grid t.x t.y (first_amount p) f.full m.grid f.cursor.column f.cursor.row).0) (
      by_test (last == 0x4A) _ _ (λ e. at_byte 0x4A All _ e refl tt) (
      by_test (last == 0x4B) _ _ (λ e. at_byte 0x4B Line (line_erased (first_choice p) t) e refl (line_erased_but (first_choice p) t f m).line) (
      by_test (last == 0x4C) _ _ (λ e. free _ (inserted_mended (first_amount p) t f m)) (
      by_test (last == 0x4D) _ _ (λ e. free _ (deleted_mended (first_amount p) t f m)) (
      by_test (last == 0x50) _ _ (λ e. at_byte 0x50 Line (characters_deleted (first_amount p) t) e refl (moved-mend t.grid t.x t.y (first_amount p) f.full m.grid f.cursor.column f.cursor.row).1) (
      by_test (last == 0x53) _ _ (λ e. free _ (up_mended (first_amount p) t f m)) (
      by_test (last == 0x54) _ _ (λ e. free _ (down_mended (first_amount p) t f m)) (
      by_test (last == 0x58) _ _ (λ e. at_byte 0x58 Line (characters_erased (first_amount p) t) e refl (erased_but t t.x (min (t.x + first_amount p) t.grid.cols) f m (omega (arith, f.cursor.column)) (omega arith)).line)
      (free _ (cursor_mended p last t m))))))))))

  margins_mended : IsMended (with_margins p t)
  margins_mended = either (are_margins p t) _ _ record { grid = m.grid } m

  sequence_left : Leaves (reach false last) (sequence_effect p last t)
  sequence_left =
      by_test (last == 0x62) _ _ (λ e. at_byte 0x62 All _ e refl tt) (
      by_test (last == 0x67) _ _ (λ e. free _ record { grid = m.grid }) (
      by_test (last == 0x68) _ _ (λ e. free _ record { grid = m.grid }) (
      by_test (last == 0x6C) _ _ (λ e. free _ record { grid = m.grid }) (
      by_test (last == 0x6D) _ _ (λ e. free _ record { grid = m.grid }) (
      by_test (last == 0x72) _ _ (λ e. free _ margins_mended) editing_left)))))

cleared : (r : Reach) (s : Terminal) (b : Bool) → Leaves r s → Leaves r (record s { pending = b })
cleared Nothing s b l = record { left = l.left }
cleared Line s b l = record { left = l.left }
cleared All s b l = record { left = tt }

pub control_left : (private : Bool) (p : Params) (last : ℕ) (t : Terminal) → IsFit t → AreMended t.grid → Leaves (reach private last) (acted (Csi private p last) t)
control_left true p last t f m = cleared Nothing (private_effect p last t) _ record { left = (private_mended p last t record { grid = m }).grid }
control_left false p last t f m = cleared (reach false last) (sequence_effect p last t) _ (sequence_left p last t f record { grid = m })

pub nothing_left : (private : Bool) (p : Params) (last : ℕ) (t : Terminal) → IsFit t → AreMended t.grid → reach private last ≡ Nothing → AreMended (acted (Csi private p last) t).grid
nothing_left private p last t f m e = (subst (λ r. Leaves r (acted (Csi private p last) t)) e (control_left private p last t f m)).left

pub line_left : (private : Bool) (p : Params) (last : ℕ) (t : Terminal) → IsFit t → AreMended t.grid → reach private last ≡ Line → AreMendedBut (acted (Csi private p last) t).y (acted (Csi private p last) t).grid
line_left private p last t f m e = (subst (λ r. Leaves r (acted (Csi private p last) t)) e (control_left private p last t f m)).left

pub code_left : (code : ℕ) (t : Terminal) → IsFit t → AreMended t.grid → AreMended (acted (Code code) t).grid
code_left code t f m = (code_mended code t f record { grid = m }).grid

pub escape_left : (last : ℕ) (t : Terminal) → IsFit t → AreMended t.grid → AreMended (acted (Esc last) t).grid
escape_left last t f m = (escape_mended last t f record { grid = m }).grid

pub opened_left : (t : Terminal) (faces : Faces) (cols rows : ℕ) → t ≡ opening_screen faces cols rows → AreMended t.grid
opened_left t faces cols rows is = subst (λ (u : Terminal). AreMended u.grid) (sym is)
    (wholes-are-mended (blank_grid cols rows) (All-replicate (λ (cell : Cell). cell.half ≡ Whole) (rows * cols) blank refl))

-- ---- what was done, and then mended

-- where nothing is to mend
pub as_acted : (c : Control) (old new : Terminal) → new ≡ acted c old → IsFull new.grid → AreMended (acted c old).grid → new ≡ effect c old
as_acted c old new is full are =
    is ∙ sym (ap (λ (g : CellGrid). record (acted c old) { grid = g }) (mended-stay (acted c old).grid (subst (λ (t : Terminal). IsFull t.grid) is full) are))

-- .. and where it was mended
pub as_mended : (c : Control) (old mid new : Terminal) → mid ≡ acted c old → new ≡ record mid { grid = mended mid.grid } → new ≡ effect c old
as_mended c old mid new is mends = mends ∙ ap (λ (t : Terminal). record t { grid = mended t.grid }) is

pub still_mended : (c : Control) (old new : Terminal) → new ≡ acted c old → AreMended (acted c old).grid → AreMended new.grid
still_mended c old new is are = subst (λ (t : Terminal). AreMended t.grid) (sym is) are

pub now_mended : (mid new : Terminal) → IsFull mid.grid → new ≡ record mid { grid = mended mid.grid } → AreMended new.grid
now_mended mid new full mends = subst (λ (t : Terminal). AreMended t.grid) (sym mends) (all-are-mended mid.grid full).1
