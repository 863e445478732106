-- The movements of the cursor (ECMA-48, CUU to CUP, CHT, CBT, DECSC and DECRC; where they stop is this
-- project's own).
use Rattle.std.specs.Prelude.{ℕ, ◌+◌, ◌-◌, min, max, nat_le, if◌then◌else◌, Some, unwrap_or}
use Rattle.gate_model.specs.declared.control.Params.{Params}
use Rattle.gate_model.specs.terminal.Arguments.{amount, parameter}
use Rattle.gate_model.specs.terminal.TabStops.{stops_above, stops_below}
use Rattle.gate_model.specs.terminal.Terminal.{Terminal, plain}

-- the last column and the last row
abbrev pub last_column : Terminal → ℕ
last_column t = t.grid.cols - 1

abbrev pub last_row : Terminal → ℕ
last_row t = t.grid.rows - 1

-- CR, and what CNL and CPL do last
abbrev pub returned : Terminal → Terminal
returned t = record t { x = 0 }

-- BS and CUB
abbrev pub moved_back : ℕ → Terminal → Terminal
moved_back n t = record t { x = t.x - n }

-- CUF
abbrev pub moved_on : ℕ → Terminal → Terminal
moved_on n t = record t { x = min (t.x + n) (last_column t) }

-- CUU: not past the top margin from within or below it
abbrev pub moved_up : ℕ → Terminal → Terminal
moved_up n t = record t { y = max (t.y - n) (if nat_le t.top t.y then t.top else 0) }

-- CUD: not past the bottom margin from within or above it
abbrev pub moved_down : ℕ → Terminal → Terminal
moved_down n t = record t { y = min (t.y + n) (if nat_le t.y t.bottom then t.bottom else last_row t) }

-- CHA: to a column, counted from 1
abbrev pub to_column : ℕ → Terminal → Terminal
to_column n t = record t { x = min (n - 1) (last_column t) }

-- VPA: to a row, counted from 1
abbrev pub to_row : ℕ → Terminal → Terminal
to_row n t = record t { y = min (n - 1) (last_row t) }

-- CUP and HVP: to a row and a column
abbrev pub to_place : Params → Terminal → Terminal
to_place params t = to_column (amount (parameter 1 params)) (to_row (amount (parameter 0 params)) t)

-- HT and CHT
abbrev pub tabbed_on : ℕ → Terminal → Terminal
tabbed_on n t = record t { x = stops_above t.stops n t.x }

-- CBT
abbrev pub tabbed_back : ℕ → Terminal → Terminal
tabbed_back n t = record t { x = stops_below t.stops n t.x }

-- DECSC (ESC 7)
abbrev pub saved_cursor : Terminal → Terminal
saved_cursor t = record t { saved = Some record { x = t.x; y = t.y; pen = t.pen } }

-- DECRC (ESC 8): what was saved, or the first place and the plain pen
abbrev pub restored_cursor : Terminal → Terminal
restored_cursor t =
    let s = unwrap_or t.saved record { x = 0; y = 0; pen = plain } in
    record t { x = s.x; y = s.y; pen = s.pen }
