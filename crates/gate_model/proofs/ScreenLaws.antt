-- What every effect keeps: the size of the screen, and that each ink and paper is a colour.
use Rattle.std.proofs.Common.{◌≡◌, ℕ, zero, suc, ◌+◌, ◌-◌, ◌*◌, ◌<◌, List, [], ◌∷◌, ◌++◌, Bool, true, false, refl, ◌∙◌, ap, replicate, arith, lit<}
use Rattle.std.specs.Prelude.{All, map, min, if◌then◌else◌, ◌==◌, ◌&&◌, nat_le, nat_lt, Option, Some, None, IfSome, unwrap_or}
use Rattle.std.specs.Int.{is_in_range}
use Rattle.std.proofs.lemmas.Bool.Decides.{nat_tests}
use Rattle.std.proofs.lemmas.List.Elements.{All-set, All-map}
use Rattle.gate_model.specs.declared.cell.Cell.{Cell}
use Rattle.gate_model.specs.declared.cell.Half.TheVariants.{Left, Right}
use Rattle.gate_model.specs.declared.key.Key.{Key}
use Rattle.gate_model.specs.declared.control.Control.{Control}
use Rattle.gate_model.specs.declared.control.Control.TheVariants.{Print, Code, Esc, Csi}
use Rattle.gate_model.specs.declared.control.Params.{Params}
use Rattle.gate_model.specs.terminal.Arguments.{choice, first_amount, first_choice, listed}
use Rattle.gate_model.specs.picture.Pictures.{key_at, blank_key}
use Rattle.gate_model.specs.terminal.Cells.{CellGrid, blank, with_part, place, put, mended_cell, mended, spaced, rows_of, rest_of_row, moved_left, moved_right, erased, inserted, deleted}
use Rattle.gate_model.specs.terminal.Cells as cells
use Rattle.gate_model.specs.terminal.Terminal.{Pen, Saved, Terminal, plain}
use Rattle.gate_model.specs.terminal.Pens.{styled_after, styled_by, is_colour, colour_size, chosen_index, with_colour, drawn_with, pen_ink, pen_paper}
use Rattle.gate_model.specs.terminal.TabStops.{with_stop, stops_cleared}
use Rattle.gate_model.specs.terminal.Cursor.{returned, moved_back, moved_on, moved_up, moved_down, to_column, to_row, to_place, tabbed_on, tabbed_back, saved_cursor, restored_cursor}
use Rattle.gate_model.specs.terminal.Editing.{blanked, cursor_place, place_count, display_erased, line_erased, characters_erased, characters_inserted, characters_deleted}
use Rattle.gate_model.specs.terminal.Modes.{modes_set}
use Rattle.gate_model.specs.terminal.Printing.{width_of, is_wide, fitting, wrapped, given_room, opened_for, placed, printed_as, printed, printed_often, repeated_as}
use Rattle.gate_model.specs.terminal.Scrolling.{line_feed, scrolled_up, scrolled_down, is_within, are_margins, named_bottom}
use Rattle.gate_model.specs.terminal.Effects.{act, code_effect, cursor_effect, editing_effect, effect, escape_effect, private_effect, reset, sequence_effect}
use Rattle.gate_model.proofs.CellsKept.{blanks_kept, part_kept, erased_kept, inserted_kept, deleted_kept, up_kept, down_kept, mended_kept}
use Rattle.gate_model.specs.terminal.Screens.{after_controls, key_of, exchanged, exchanged_at, shown, IsColoured, AreColoured}

-- a cell's ink and paper are indexes of the palette
abbrev pub Coloured : Cell → Type 0
Coloured c = (c.ink < 256) × (c.paper < 256)

-- a pen's ink and paper are of the palette
pub record IsPen (p : Pen) : Type 0 where
  pub ink : IfSome p.ink (λ i. i < 256)
  pub paper : IfSome p.paper (λ i. i < 256)

-- every colour of a screen is one
pub record IsPainted (t : Terminal) : Type 0 where
  pub cells : All Coloured t.grid.cells
  pub pen : IsPen t.pen
  pub saved : IfSome t.saved (λ s. IsPen s.pen)

-- the size stays, and colours stay colours
pub record Keeps (t n : Terminal) : Type 0 where
  pub columns : n.grid.cols ≡ t.grid.cols
  pub rows : n.grid.rows ≡ t.grid.rows
  pub painted : IsPainted t → IsPainted n

-- the same of a grid
pub record KeepsGrid (g n : CellGrid) : Type 0 where
  pub columns : n.cols ≡ g.cols
  pub rows : n.rows ≡ g.rows
  pub painted : All Coloured g.cells → All Coloured n.cells

same : (t : Terminal) → Keeps t t
same t = record { columns = refl; rows = refl; painted = λ p. p }

on_to : (t n m : Terminal) → Keeps t n → Keeps n m → Keeps t m
on_to t n m a b = record { columns = b.columns ∙ a.columns; rows = b.rows ∙ a.rows; painted = λ p. b.painted (a.painted p) }

chosen : (b : Bool) (t n m : Terminal) → Keeps t n → Keeps t m → Keeps t (if b then n else m)
chosen true t n m k l = k
chosen false t n m k l = l

-- neither the grid nor a pen changes
still : (t n : Terminal) → n.grid ≡ t.grid → n.pen ≡ t.pen → n.saved ≡ t.saved → Keeps t n
still t n g p s = record {
  columns = ap (λ (k : CellGrid). k.cols) g;
  rows = ap (λ (k : CellGrid). k.rows) g;
  painted = λ q. record { cells = rw g q.cells; pen = rw p q.pen; saved = rw s q.saved };
}

-- the grid alone changes
edits : (t n : Terminal) → KeepsGrid t.grid n.grid → n.pen ≡ t.pen → n.saved ≡ t.saved → Keeps t n
edits t n k p s = record { columns = k.columns; rows = k.rows; painted = λ q. record { cells = k.painted q.cells; pen = rw p q.pen; saved = rw s q.saved } }

-- ---- cells

pub is_plain : (7 < 256) × (0 < 256)
is_plain = (lit< tt, lit< tt)

blanked-keeps : (from to : ℕ) (g : CellGrid) → KeepsGrid g (blanked from to g)
blanked-keeps from to g = record { columns = refl; rows = refl; painted = part_kept Coloured is_plain from to (replicate (to - from) blank) g.cells (blanks_kept Coloured is_plain (to - from)) }

erased-keeps : (y from to : ℕ) (g : CellGrid) → KeepsGrid g (erased y from to g)
erased-keeps y from to g = record { columns = refl; rows = refl; painted = erased_kept Coloured is_plain y from to g }

inserted-keeps : (x y n : ℕ) (g : CellGrid) → KeepsGrid g (inserted x y n g)
inserted-keeps x y n g = record { columns = refl; rows = refl; painted = inserted_kept Coloured is_plain x y n g }

deleted-keeps : (x y n : ℕ) (g : CellGrid) → KeepsGrid g (deleted x y n g)
deleted-keeps x y n g = record { columns = refl; rows = refl; painted = deleted_kept Coloured is_plain x y n g }

up-keeps : (top bottom n : ℕ) (g : CellGrid) → KeepsGrid g (cells.scrolled_up top bottom n g)
up-keeps top bottom n g = record { columns = refl; rows = refl; painted = up_kept Coloured is_plain top bottom n g }

down-keeps : (top bottom n : ℕ) (g : CellGrid) → KeepsGrid g (cells.scrolled_down top bottom n g)
down-keeps top bottom n g = record { columns = refl; rows = refl; painted = down_kept Coloured is_plain top bottom n g }

pub mended-keeps : (g : CellGrid) → KeepsGrid g (mended g)
mended-keeps g = record { columns = refl; rows = refl; painted = mended_kept Coloured is_plain (λ cell is. is) g }

-- ---- pens

pub plain_pen : IsPen plain
plain_pen = record { ink = tt; paper = tt }

colour_below : (low n : ℕ) → (nat_le low n && nat_le n (low + 7)) ≡ true → n - low < 256
colour_below low n is = grind (arith, nat_tests)

pen_chosen : (b : Bool) (p q : Pen) → (b ≡ true → IsPen p) → IsPen q → IsPen (if b then p else q)
pen_chosen true p q k l = k refl
pen_chosen false p q k l = l

styled_by-pen : (n : ℕ) (p : Pen) → IsPen p → IsPen (styled_by n p)
styled_by-pen n p is =
    pen_chosen (n == 0) _ _ (λ e. plain_pen) (
    pen_chosen (n == 1) _ _ (λ e. record { ink = is.ink; paper = is.paper }) (
    pen_chosen (n == 4) _ _ (λ e. record { ink = is.ink; paper = is.paper }) (
    pen_chosen (n == 7) _ _ (λ e. record { ink = is.ink; paper = is.paper }) (
    pen_chosen (n == 22) _ _ (λ e. record { ink = is.ink; paper = is.paper }) (
    pen_chosen (n == 24) _ _ (λ e. record { ink = is.ink; paper = is.paper }) (
    pen_chosen (n == 27) _ _ (λ e. record { ink = is.ink; paper = is.paper }) (
    pen_chosen (is_in_range 30 37 n) _ _ (λ e. record { ink = colour_below 30 n e; paper = is.paper }) (
    pen_chosen (n == 39) _ _ (λ e. record { ink = tt; paper = is.paper }) (
    pen_chosen (is_in_range 40 47 n) _ _ (λ e. record { ink = is.ink; paper = colour_below 40 n e }) (
    pen_chosen (n == 49) _ _ (λ e. record { ink = is.ink; paper = tt }) is))))))))))

chosen_small : (ps : List ℕ) → IfSome (chosen_index ps) (λ n. n < 256)
chosen_small [] = tt
chosen_small (p ∷ []) = tt
chosen_small (p ∷ n ∷ ps) = pick (p == 5 && nat_le (choice n) 255) refl
  where
    pick : (b : Bool) → (p == 5 && nat_le (choice n) 255) ≡ b → IfSome (if b then Some (choice n) else None) (λ k. k < 256)
    pick true e = grind (arith, nat_tests)
    pick false e = tt

with_colour-pen : (p : ℕ) (o : Option ℕ) (pen : Pen) → IfSome o (λ n. n < 256) → IsPen pen → IsPen (with_colour p o pen)
with_colour-pen p None pen k is = is
with_colour-pen p (Some n) pen k is = pen_chosen (p == 38) _ _ (λ e. record { ink = k; paper = is.paper }) record { ink = is.ink; paper = k }

styled_after-pen : (skipped : ℕ) (p : Pen) (ns : List ℕ) → IsPen p → IsPen (styled_after skipped p ns)
styled_after-pen skipped p [] is = is
styled_after-pen (suc k) p (n ∷ ns) is = styled_after-pen k p ns is
styled_after-pen zero p (n ∷ ns) is = pen_chosen (is_colour n) _ _ (λ e. styled_after-pen (colour_size ns) (with_colour n (chosen_index ns) p) ns (with_colour-pen n (chosen_index ns) p (chosen_small ns) is)) (styled_after-pen 0 (styled_by (choice n) p) ns (styled_by-pen (choice n) p is))

-- the cell that a pen prints is of the palette
drawn_coloured : (p : Pen) (c : ℕ) → IsPen p → Coloured (drawn_with p c)
drawn_coloured p c is = pick p.reverse
  where
    at_most : (o : Option ℕ) (d : ℕ) → IfSome o (λ i. i < 256) → d < 256 → unwrap_or o d < 256
    at_most None d k lt = lt
    at_most (Some i) d k lt = k

    bold : (b c : Bool) (n : ℕ) → nat_lt n 8 ≡ c → n < 256 → n + (if b && c then 8 else 0) < 256
    bold true true n e lt = let low : n < 8 = grind (arith, nat_tests) in omega (arith, low)
    bold true false n e lt = omega (arith, lt)
    bold false c n e lt = omega (arith, lt)

    ink : pen_ink p < 256
    ink = bold p.bold (nat_lt (unwrap_or p.ink 7) 8) (unwrap_or p.ink 7) refl (at_most p.ink 7 is.ink (omega arith))

    paper : pen_paper p < 256
    paper = let lt : unwrap_or p.paper 0 < 256 = at_most p.paper 0 is.paper (omega arith) in omega (arith, lt)

    pick : (b : Bool) → ((if b then pen_paper p else pen_ink p) < 256) × ((if b then pen_ink p else pen_paper p) < 256)
    pick true = (paper, ink)
    pick false = (ink, paper)

-- ---- each function

scrolled_up-keeps : (n : ℕ) (t : Terminal) → Keeps t (scrolled_up n t)
scrolled_up-keeps n t = edits t (scrolled_up n t) (up-keeps t.top t.bottom n t.grid) refl refl

scrolled_down-keeps : (n : ℕ) (t : Terminal) → Keeps t (scrolled_down n t)
scrolled_down-keeps n t = edits t (scrolled_down n t) (down-keeps t.top t.bottom n t.grid) refl refl

line_feed-keeps : (t : Terminal) → Keeps t (line_feed t)
line_feed-keeps t = chosen (t.y == t.bottom) t _ _ (scrolled_up-keeps 1 t) (chosen (nat_lt (t.y + 1) t.grid.rows) t _ t (still t (record t { y = t.y + 1 }) refl refl refl) (same t))

wrapped-keeps : (t : Terminal) → Keeps t (wrapped t)
wrapped-keeps t = chosen t.pending t _ t (on_to t (returned t) (line_feed (returned t)) (still t (returned t) refl refl refl) (line_feed-keeps (returned t))) (same t)

given_room-keeps : (wide : Bool) (t : Terminal) → Keeps t (given_room wide t)
given_room-keeps wide t = chosen (wide && t.x + 1 == t.grid.cols) t _ t (chosen t.modes.wrap t _ _ (on_to t (returned t) (line_feed (returned t)) (still t (returned t) refl refl refl) (line_feed-keeps (returned t))) (still t (record t { x = t.x - 1 }) refl refl refl)) (same t)

opened_for-keeps : (n : ℕ) (t : Terminal) → Keeps t (opened_for n t)
opened_for-keeps n t = chosen t.modes.insert t _ t (edits t (characters_inserted n t) (inserted-keeps t.x t.y n t.grid) refl refl) (same t)

placed-keeps : (wide : Bool) (c : ℕ) (t : Terminal) → Keeps t (placed wide c t)
placed-keeps false c t = record {
  columns = refl;
  rows = refl;
  painted = λ q. record { cells = All-set Coloured t.grid.cells (place t.x t.y t.grid) (drawn_with t.pen c) (drawn_coloured t.pen c q.pen) q.cells; pen = q.pen; saved = q.saved };
}
placed-keeps true c t = record {
  columns = refl;
  rows = refl;
  painted = λ q.
      let k = drawn_coloured t.pen c q.pen in
      let left : Cell = record (drawn_with t.pen c) { half = Left } in
      let first = All-set Coloured t.grid.cells (place t.x t.y t.grid) left k q.cells in
      record { cells = All-set Coloured (put t.x t.y left t.grid).cells (place (t.x + 1) t.y t.grid) (record (drawn_with t.pen c) { half = Right }) k first; pen = q.pen; saved = q.saved };
}

printed_as-keeps : (wide : Bool) (c : ℕ) (t : Terminal) → Keeps t (printed_as wide c t)
printed_as-keeps wide c t =
    let n = if wide then 2 else 1 in
    let u = given_room wide (wrapped t) in
    on_to t (wrapped t) (printed_as wide c t) (wrapped-keeps t)
    (on_to (wrapped t) u (printed_as wide c t) (given_room-keeps wide (wrapped t)) (on_to u (opened_for n u) (printed_as wide c t) (opened_for-keeps n u) (placed-keeps wide c (opened_for n u))))

printed-keeps : (c : ℕ) (t : Terminal) → Keeps t (printed c t)
printed-keeps c t = let shown_as = fitting t.grid.cols c in chosen (width_of c == 0) t t _ (same t) (printed_as-keeps (is_wide shown_as) shown_as t)

printed_often-keeps : (n c : ℕ) (t : Terminal) → Keeps t (printed_often n c t)
unfolding printed_often
printed_often-keeps zero c t = same t
printed_often-keeps (suc n) c t = on_to t (printed c t) (printed_often n c (printed c t)) (printed-keeps c t) (printed_often-keeps n c (printed c t))

repeated_as-keeps : (n : ℕ) (o : Option ℕ) (t : Terminal) → Keeps t (repeated_as n o t)
repeated_as-keeps n None t = same t
repeated_as-keeps n (Some c) t = printed_often-keeps (min n t.grid.cols) c t

saved_cursor-keeps : (t : Terminal) → Keeps t (saved_cursor t)
saved_cursor-keeps t = record { columns = refl; rows = refl; painted = λ q. record { cells = q.cells; pen = q.pen; saved = q.pen } }

restored_cursor-keeps : (t : Terminal) → Keeps t (restored_cursor t)
restored_cursor-keeps t = record { columns = refl; rows = refl; painted = λ q. record { cells = q.cells; pen = of_saved t.saved q.saved; saved = q.saved } }
  where
    of_saved : (o : Option Saved) → IfSome o (λ s. IsPen s.pen) → IsPen (unwrap_or o record { x = 0; y = 0; pen = plain }).pen
    of_saved None k = plain_pen
    of_saved (Some s) k = k

reset-keeps : (t : Terminal) → Keeps t (reset t)
reset-keeps t = record { columns = refl; rows = refl; painted = λ q. record { cells = blanks_kept Coloured is_plain (t.grid.rows * t.grid.cols); pen = plain_pen; saved = tt } }

code-keeps : (code : ℕ) (t : Terminal) → Keeps t (code_effect code t)
code-keeps code t =
    chosen (code == 0x08) t _ _ (still t (moved_back 1 t) refl refl refl) (
    chosen (code == 0x09) t _ _ (still t (tabbed_on 1 t) refl refl refl) (
    chosen (is_in_range 0x0A 0x0C code) t _ _ (line_feed-keeps t) (
    chosen (code == 0x0D) t _ t (still t (returned t) refl refl refl) (same t))))

escape-keeps : (last : ℕ) (t : Terminal) → Keeps t (escape_effect last t)
escape-keeps last t =
    chosen (last == 0x37) t _ _ (saved_cursor-keeps t) (
    chosen (last == 0x38) t _ _ (restored_cursor-keeps t) (
    chosen (last == 0x45) t _ _ (on_to t (returned t) (line_feed (returned t)) (still t (returned t) refl refl refl) (line_feed-keeps (returned t))) (
    chosen (last == 0x48) t _ _ (still t (record t { stops = with_stop t.x t.stops }) refl refl refl) (
    chosen (last == 0x4D) t _ _ (chosen (t.y == t.top) t _ _ (scrolled_down-keeps 1 t) (still t (record t { y = t.y - 1 }) refl refl refl)) (
    chosen (last == 0x63) t _ t (reset-keeps t) (same t))))))

cursor-keeps : (p : Params) (last : ℕ) (t : Terminal) → Keeps t (cursor_effect p last t)
cursor-keeps p last t = let n = first_amount p in
    chosen (last == 0x41) t _ _ (still t (moved_up n t) refl refl refl) (
    chosen (last == 0x42) t _ _ (still t (moved_down n t) refl refl refl) (
    chosen (last == 0x43) t _ _ (still t (moved_on n t) refl refl refl) (
    chosen (last == 0x44) t _ _ (still t (moved_back n t) refl refl refl) (
    chosen (last == 0x45) t _ _ (still t (returned (moved_down n t)) refl refl refl) (
    chosen (last == 0x46) t _ _ (still t (returned (moved_up n t)) refl refl refl) (
    chosen (last == 0x47) t _ _ (still t (to_column n t) refl refl refl) (
    chosen (last == 0x48) t _ _ (still t (to_place p t) refl refl refl) (
    chosen (last == 0x49) t _ _ (still t (tabbed_on n t) refl refl refl) (
    chosen (last == 0x5A) t _ _ (still t (tabbed_back n t) refl refl refl) (
    chosen (last == 0x64) t _ _ (still t (to_row n t) refl refl refl) (
    chosen (last == 0x66) t _ t (still t (to_place p t) refl refl refl) (same t))))))))))))

display-keeps : (which : ℕ) (t : Terminal) → Keeps t (display_erased which t)
display-keeps which t =
    chosen (which == 0) t _ _ (edits t (record t { grid = blanked (cursor_place t) (place_count t) t.grid }) (blanked-keeps (cursor_place t) (place_count t) t.grid) refl refl) (
    chosen (which == 1) t _ _ (edits t (record t { grid = blanked 0 (cursor_place t + 1) t.grid }) (blanked-keeps 0 (cursor_place t + 1) t.grid) refl refl) (
    chosen (which == 2) t _ t (edits t (record t { grid = blanked 0 (place_count t) t.grid }) (blanked-keeps 0 (place_count t) t.grid) refl refl) (same t)))

line-keeps : (which : ℕ) (t : Terminal) → Keeps t (line_erased which t)
line-keeps which t =
    chosen (which == 0) t _ _ (edits t (record t { grid = erased t.y t.x t.grid.cols t.grid }) (erased-keeps t.y t.x t.grid.cols t.grid) refl refl) (
    chosen (which == 1) t _ _ (edits t (record t { grid = erased t.y 0 (t.x + 1) t.grid }) (erased-keeps t.y 0 (t.x + 1) t.grid) refl refl) (
    chosen (which == 2) t _ t (edits t (record t { grid = erased t.y 0 t.grid.cols t.grid }) (erased-keeps t.y 0 t.grid.cols t.grid) refl refl) (same t)))

editing-keeps : (p : Params) (last : ℕ) (t : Terminal) → Keeps t (editing_effect p last t)
editing-keeps p last t = let n = first_amount p in
    chosen (last == 0x40) t _ _ (edits t (characters_inserted n t) (inserted-keeps t.x t.y n t.grid) refl refl) (
    chosen (last == 0x4A) t _ _ (display-keeps (first_choice p) t) (
    chosen (last == 0x4B) t _ _ (line-keeps (first_choice p) t) (
    chosen (last == 0x4C) t _ _ (chosen (is_within t) t _ t (edits t (record t { grid = cells.scrolled_down t.y t.bottom n t.grid; x = 0 }) (down-keeps t.y t.bottom n t.grid) refl refl) (same t)) (
    chosen (last == 0x4D) t _ _ (chosen (is_within t) t _ t (edits t (record t { grid = cells.scrolled_up t.y t.bottom n t.grid; x = 0 }) (up-keeps t.y t.bottom n t.grid) refl refl) (same t)) (
    chosen (last == 0x50) t _ _ (edits t (characters_deleted n t) (deleted-keeps t.x t.y n t.grid) refl refl) (
    chosen (last == 0x53) t _ _ (scrolled_up-keeps n t) (
    chosen (last == 0x54) t _ _ (scrolled_down-keeps n t) (
    chosen (last == 0x58) t _ _ (edits t (characters_erased n t) (erased-keeps t.y t.x (min (t.x + n) t.grid.cols) t.grid) refl refl) (cursor-keeps p last t)))))))))

sequence-keeps : (p : Params) (last : ℕ) (t : Terminal) → Keeps t (sequence_effect p last t)
sequence-keeps p last t =
    chosen (last == 0x62) t _ _ (repeated_as-keeps (first_amount p) t.last t) (
    chosen (last == 0x67) t _ _ (still t (record t { stops = stops_cleared (first_choice p) t.x t.stops }) refl refl refl) (
    chosen (last == 0x68) t _ _ (still t (record t { modes = modes_set false true (listed p) t.modes }) refl refl refl) (
    chosen (last == 0x6C) t _ _ (still t (record t { modes = modes_set false false (listed p) t.modes }) refl refl refl) (
    chosen (last == 0x6D) t _ _ (record { columns = refl; rows = refl; painted = λ q. record { cells = q.cells; pen = styled_after-pen 0 t.pen (listed p) q.pen; saved = q.saved } }) (
    chosen (last == 0x72) t _ _ (chosen (are_margins p t) t _ t (still t (record t { top = first_amount p - 1; bottom = named_bottom p t; x = 0; y = 0 }) refl refl refl) (same t)) (editing-keeps p last t))))))

private-keeps : (p : Params) (last : ℕ) (t : Terminal) → Keeps t (private_effect p last t)
private-keeps p last t =
    chosen (last == 0x68) t _ _ (still t (record t { modes = modes_set true true (listed p) t.modes }) refl refl refl) (
    chosen (last == 0x6C) t _ t (still t (record t { modes = modes_set true false (listed p) t.modes }) refl refl refl) (same t))

act-keeps : (c : Control) (t : Terminal) → Keeps t (act c t)
act-keeps (Print c) t = printed-keeps c t
act-keeps (Code code) t = code-keeps code t
act-keeps (Esc last) t = escape-keeps last t
act-keeps (Csi private params last) t = chosen private t _ _ (private-keeps params last t) (sequence-keeps params last t)

pub effect-keeps : (c : Control) (t : Terminal) → Keeps t (effect c t)
effect-keeps c t = on_to t (act c t) (effect c t) (act-keeps c t) (edits (act c t) (effect c t) (mended-keeps (act c t).grid) refl refl)

-- ---- any number of functions

pub after_controls-keeps : (t : Terminal) (cs : List Control) → Keeps t (after_controls t cs)
after_controls-keeps t [] = same t
after_controls-keeps t (c ∷ cs) = on_to t (effect c t) (after_controls (effect c t) cs) (effect-keeps c t) (after_controls-keeps (effect c t) cs)

pub after_controls-append : (t : Terminal) (xs ys : List Control) → after_controls t (xs ++ ys) ≡ after_controls (after_controls t xs) ys
after_controls-append t [] ys = refl
after_controls-append t (c ∷ xs) ys = after_controls-append (effect c t) xs ys

coloured-key_at : (keys : List Key) (place : ℕ) → AreColoured keys → IsColoured (key_at keys place)
coloured-key_at [] place c = is_plain
coloured-key_at (k ∷ ks) zero c = c zero blank_key (omega arith)
coloured-key_at (k ∷ ks) (suc n) c = coloured-key_at ks n (λ i d lt. c (suc i) d (omega (arith, lt)))

pub coloured-shown : (t : Terminal) → All Coloured t.grid.cells → AreColoured (shown t).keys
coloured-shown t c = pick t.modes.visible
  where
    at : ℕ
    at = place t.x t.y t.grid

    are : AreColoured (map (key_of t.faces) t.grid.cells)
    are = All-map IsColoured (key_of t.faces) t.grid.cells c

    pick : (b : Bool) → AreColoured (if b then exchanged_at (place t.x t.y t.grid) (map (key_of t.faces) t.grid.cells) else map (key_of t.faces) t.grid.cells)
    pick false = are
    pick true = let k = coloured-key_at (map (key_of t.faces) t.grid.cells) at are in All-set IsColoured (map (key_of t.faces) t.grid.cells) at (exchanged (key_at (map (key_of t.faces) t.grid.cells) at)) (k.1, k.0) are
