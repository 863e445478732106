-- A screen that gets another size (this project's own).
use Rattle.std.specs.Prelude.{ℕ, ◌-◌, min, false}
use Rattle.std.specs.Option.{option_map}
use Rattle.gate_model.specs.terminal.Cells as cells
use Rattle.gate_model.specs.terminal.TabStops.{stops_resized}
use Rattle.gate_model.specs.terminal.Terminal.{Saved, Terminal}

-- a saved place, at most the last one of the size
abbrev pub saved_within : ℕ → ℕ → Saved → Saved
saved_within cols rows s = record s { x = min s.x (cols - 1); y = min s.y (rows - 1) }

-- the cells that both sizes have stay, and new ones are blank. The cursor and the saved place come to the last
-- column and row where they were beyond. No wrap is pending, and the margins are the whole screen. All else stays
abbrev pub refitted : ℕ → ℕ → Terminal → Terminal
refitted cols rows t = record t {
  grid = cells.resized cols rows t.grid;
  x = min t.x (cols - 1);
  y = min t.y (rows - 1);
  pending = false;
  top = 0;
  bottom = rows - 1;
  stops = stops_resized cols t.stops;
  saved = option_map (saved_within cols rows) t.saved;
}

-- another size; a half whose other half was cut off becomes a space
abbrev pub resized : ℕ → ℕ → Terminal → Terminal
resized cols rows t = let after = refitted cols rows t in record after { grid = cells.mended after.grid }
