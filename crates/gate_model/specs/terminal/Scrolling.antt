-- Scrolling within the margins (ECMA-48, LF, NEL, RI, SU, SD, IL, DL, and DECSTBM).
use Rattle.std.specs.Prelude.{ℕ, ◌+◌, ◌-◌, min, Bool, ◌&&◌, ◌||◌, ◌==◌, nat_lt, nat_le, if◌then◌else◌}
use Rattle.gate_model.specs.declared.control.Params.{Params}
use Rattle.gate_model.specs.terminal.Arguments.{first_amount, parameter}
use Rattle.gate_model.specs.terminal.Cells as cells
use Rattle.gate_model.specs.terminal.Parameters.{default}
use Rattle.gate_model.specs.terminal.Terminal.{Terminal}

-- the margins are the first and the last row
abbrev pub is_whole : Terminal → Bool
is_whole t = t.top == 0 && t.bottom + 1 == t.grid.rows

-- SU: the lines of the margins move up by n. Where the whole screen moves, the lines are counted
abbrev pub scrolled_up : ℕ → Terminal → Terminal
scrolled_up n t = record t {
  grid = cells.scrolled_up t.top t.bottom n t.grid;
  shift = if is_whole t then t.shift + min n t.grid.rows else t.shift;
}

-- SD: the lines of the margins move down by n
abbrev pub scrolled_down : ℕ → Terminal → Terminal
scrolled_down n t = record t { grid = cells.scrolled_down t.top t.bottom n t.grid }

-- LF, VT and FF: one row down; at the bottom margin the lines move up; below it the last row holds
abbrev pub line_feed : Terminal → Terminal
line_feed t =
    if t.y == t.bottom then scrolled_up 1 t else (
    if nat_lt (t.y + 1) t.grid.rows then record t { y = t.y + 1 } else t)

-- RI: one row up; at the top margin the lines move down
abbrev pub reverse_line_feed : Terminal → Terminal
reverse_line_feed t = if t.y == t.top then scrolled_down 1 t else record t { y = t.y - 1 }

-- the cursor is within the margins
abbrev pub is_within : Terminal → Bool
is_within t = nat_le t.top t.y && nat_le t.y t.bottom

-- IL: the lines from the cursor's to the bottom margin move down by n
abbrev pub lines_inserted : ℕ → Terminal → Terminal
lines_inserted n t = if is_within t then record t { grid = cells.scrolled_down t.y t.bottom n t.grid; x = 0 } else t

-- DL: they move up by n
abbrev pub lines_deleted : ℕ → Terminal → Terminal
lines_deleted n t = if is_within t then record t { grid = cells.scrolled_up t.y t.bottom n t.grid; x = 0 } else t

-- DECSTBM (CSI r): the bottom margin that the second parameter names, counted from 0; a default, 0 and
-- one that is too large name the last row
abbrev pub named_bottom : Params → Terminal → ℕ
named_bottom params t =
    let n = parameter 1 params in
    if n == default || n == 0 || nat_lt t.grid.rows n then t.grid.rows - 1 else n - 1

-- there are at least two lines between the margins
abbrev pub are_margins : Params → Terminal → Bool
are_margins params t = nat_lt (first_amount params - 1) (named_bottom params t)

-- the margins are set, and the cursor goes to the first place
abbrev pub with_margins : Params → Terminal → Terminal
with_margins params t =
    if are_margins params t then record t { top = first_amount params - 1; bottom = named_bottom params t; x = 0; y = 0 } else t
