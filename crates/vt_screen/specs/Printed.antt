-- Where a character is printed (this project's own).
use Rattle.std.specs.Prelude.{ℕ, ◌+◌, ◌-◌, List, length, slice_index, Bool, false, ◌==◌, if◌then◌else◌, Option, Some, None}
use Rattle.gate_model.specs.terminal.Printing.{fitting, given_room, is_wide, opened_for, width_of, wrapped}
use Rattle.gate_model.specs.terminal.Pens.{drawn_with}
use Rattle.gate_model.specs.terminal.Terminal.{Terminal}
use Rattle.screen_grid.specs.Runs.{put_run}

-- a wide character takes two columns
abbrev pub columns_for : Bool → ℕ
columns_for wide = if wide then 2 else 1

-- the state before its cells are put
abbrev pub made_room : Bool → Terminal → Terminal
made_room wide t = opened_for (columns_for wide) (given_room wide (wrapped t))

-- the columns that its cells take: the first, and the one behind the last
abbrev pub span : Bool → Terminal → ℕ × ℕ
span wide t = let x = (made_room wide t).x in (x, x + columns_for wide)

abbrev pub printed_at : ℕ → Terminal → Option (ℕ × ℕ)
printed_at c t = if width_of c == 0 then None else Some (span (is_wide (fitting t.grid.cols c)) t)

-- the characters of a run take the cells from the cursor's on, in the pen; the cursor moves behind them, or at the last
-- column a wrap is pending where the mode is on
abbrev pub placed_run : List ℕ → Terminal → Terminal
placed_run text t = let end = t.x + length text in let at_end = end == t.grid.cols in record t {
  grid = put_run t.x t.y text (drawn_with t.pen 32) t.grid;
  last = Some (slice_index text (length text - 1));
  x = if at_end then end - 1 else end;
  pending = if at_end then t.modes.wrap else false;
}
