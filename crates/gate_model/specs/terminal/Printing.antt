-- Characters that are printed (this project's own; the columns that each takes are those of Unicode's Annex 11, as the
-- crate `unicode_width` has them; REP is ECMA-48's).
use Rattle.std.specs.Prelude.{ℕ, zero, suc, ◌+◌, ◌-◌, ◌≤◌, min, ◌==◌, ◌&&◌, nat_lt, if◌then◌else◌, Bool, true, false, Option, Some, None, unwrap_or}
use Rattle.gate_model.specs.terminal.Cells.{CellGrid, paired, put}
use Rattle.gate_model.specs.terminal.Cursor.{returned}
use Rattle.gate_model.specs.terminal.Editing.{characters_inserted}
use Rattle.gate_model.specs.terminal.Pens.{drawn_with}
use Rattle.gate_model.specs.terminal.Scrolling.{line_feed}
use Rattle.gate_model.specs.terminal.Terminal.{Terminal}
unfoldable pub use Rattle.unicode_width.specs.Width.{char_width}

-- the columns that a character takes; none counts as 0
unfoldable pub width_of : ℕ → ℕ
width_of c = unwrap_or (char_width false c) 0

-- printable ASCII
abbrev pub IsPrintable : ℕ → Type 0
IsPrintable c = (0x20 ≤ c) × (c ≤ 0x7E)

-- a wide character takes two places
abbrev pub is_wide : ℕ → Bool
is_wide c = nat_lt 1 (width_of c)

-- a wide character on a screen of one column counts as U+FFFD
abbrev pub fitting : ℕ → ℕ → ℕ
fitting columns c = if is_wide c && columns == 1 then 0xFFFD else c

-- a wrap that is pending is made
abbrev pub wrapped : Terminal → Terminal
wrapped t = if t.pending then line_feed (returned t) else t

-- where a wide character has no room in its line, the cursor goes to the next one, or a column back
abbrev pub given_room : Bool → Terminal → Terminal
given_room wide t =
    if wide && t.x + 1 == t.grid.cols then (
    if t.modes.wrap then line_feed (returned t) else record t { x = t.x - 1 }) else t

-- in insert mode so many cells come free at the cursor
abbrev pub opened_for : ℕ → Terminal → Terminal
opened_for n t = if t.modes.insert then characters_inserted n t else t

-- the character's cell, or the two halves of a wide one
abbrev pub placed_cells : Bool → ℕ → Terminal → CellGrid
placed_cells false c t = put t.x t.y (drawn_with t.pen c) t.grid
placed_cells true c t = paired t.x t.y (drawn_with t.pen c) t.grid

-- the character takes the cursor's cell, and a wide one the next too, in the pen; the cursor moves behind it, or at
-- the last column a wrap is pending where the mode is on
abbrev pub placed : Bool → ℕ → Terminal → Terminal
placed wide c t = let last_cell = if wide then t.x + 1 else t.x in let at_end = last_cell + 1 == t.grid.cols in record t {
  grid = placed_cells wide c t;
  last = Some c;
  x = if at_end then last_cell else last_cell + 1;
  pending = if at_end then t.modes.wrap else false;
}

-- a character of one column, or of two
abbrev pub printed_as : Bool → ℕ → Terminal → Terminal
printed_as wide c t = placed wide c (opened_for (if wide then 2 else 1) (given_room wide (wrapped t)))

-- a character of no column has no effect
abbrev pub printed : ℕ → Terminal → Terminal
printed c t = let shown = fitting t.grid.cols c in if width_of c == 0 then t else printed_as (is_wide shown) shown t

-- a character printed n times
unfoldable pub printed_often : ℕ → ℕ → Terminal → Terminal
printed_often zero c t = t
printed_often (suc n) c t = printed_often n c (printed c t)

-- REP: the last printed character again, at most as often as there are columns; nothing where there is none
abbrev pub repeated_as : ℕ → Option ℕ → Terminal → Terminal
repeated_as n None t = t
repeated_as n (Some c) t = printed_often (min n t.grid.cols) c t

abbrev pub repeated : ℕ → Terminal → Terminal
repeated n t = repeated_as n t.last t
