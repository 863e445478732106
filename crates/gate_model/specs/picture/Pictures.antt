-- The picture of what a screen shows: 8 pixels a column and 16 a row.
use Rattle.std.specs.Prelude.{ℕ, ◌+◌, ◌*◌, ◌/◌, ◌%◌, List, false, slice_index_or}
use Rattle.gate_model.specs.declared.colour.Colour.{Colour}
use Rattle.gate_model.specs.declared.key.Key.{Key}
use Rattle.gate_model.specs.picture.KeyGrid.{KeyGrid}
use Rattle.gate_model.specs.picture.Glyphs.{glyph}

-- the key of a space with ink 7 on paper 0
abbrev pub blank_key : Key
blank_key = record { face = 32; under = false; ink = 7; paper = 0 }

-- the key at a place, counted row by row
abbrev pub key_at : List Key → ℕ → Key
key_at keys place = slice_index_or keys place blank_key

-- the colour of the pixel x, y
unfoldable pub picture : KeyGrid → ℕ → ℕ → Colour
picture s x y = glyph (key_at s.keys ((y / 16) * s.cols + x / 8)) (x % 8) (y % 16)
