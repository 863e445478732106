-- The state of a screen and its start (this project's own, after ECMA-48). Places are counted from 0.
use Rattle.std.specs.Prelude.{ℕ, ◌-◌, ◌%◌, ◌<◌, List, map, ◌&&◌, ◌==◌, nat_lt, Bool, true, false, Option, None}
use Rattle.std.specs.List.{range_with_len}
use Rattle.gate_model.specs.declared.faces.Faces.{Faces}
use Rattle.gate_model.specs.terminal.Cells.{CellGrid, blank_grid}

-- how characters are printed: an ink and a paper of the palette, or none
pub record Pen : Type 0 where
  pub bold : Bool
  pub underline : Bool
  pub reverse : Bool
  pub ink : Option ℕ
  pub paper : Option ℕ

abbrev pub plain : Pen
plain = record { bold = false; underline = false; reverse = false; ink = None; paper = None }

-- the cursor's place and the pen, as DECSC saves them
pub record Saved : Type 0 where
  pub x : ℕ
  pub y : ℕ
  pub pen : Pen

-- the modes: cursor keys, autowrap, cursor visible, insert
pub record Modes : Type 0 where
  pub cursor_keys : Bool
  pub wrap : Bool
  pub visible : Bool
  pub insert : Bool

-- `pending` says that the last column was just printed and the next character wraps. `top` and
-- `bottom` are the margins, both included; `stops` tells of each column whether a tab stop is there;
-- `last` is the last printed character; `faces` says which characters have faces of their own, and
-- nothing changes it; `shift` is the number of lines that the whole screen has scrolled up.
pub record Terminal : Type 0 where
  pub grid : CellGrid
  pub x : ℕ
  pub y : ℕ
  pub pending : Bool
  pub top : ℕ
  pub bottom : ℕ
  pub stops : List Bool
  pub pen : Pen
  pub saved : Option Saved
  pub last : Option ℕ
  pub modes : Modes
  pub faces : Faces
  pub shift : ℕ

-- there is a tab stop at every eighth column but the first
abbrev pub is_first_stop : ℕ → Bool
is_first_stop column = nat_lt 0 column && column % 8 == 0

abbrev pub first_stops : ℕ → List Bool
first_stops columns = map is_first_stop (range_with_len 0 columns)

abbrev pub first_modes : Modes
first_modes = record { cursor_keys = false; wrap = true; visible = true; insert = false }

-- every cell is blank, the cursor is at the first place, the margins are the whole screen, the pen is
-- plain, and nothing is saved or printed
abbrev pub opening_screen : Faces → ℕ → ℕ → Terminal
opening_screen faces columns rows = record {
  grid = blank_grid columns rows;
  x = 0;
  y = 0;
  pending = false;
  top = 0;
  bottom = rows - 1;
  stops = first_stops columns;
  pen = plain;
  saved = None;
  last = None;
  modes = first_modes;
  faces = faces;
  shift = 0;
}

-- a place of the grid
pub record IsPlaceOf (g : CellGrid) (x y : ℕ) : Type 0 where
  pub column : x < g.cols
  pub row : y < g.rows
