-- The layers while a frame is drawn: at some places of the visible one a key is known (this project's own).
use Rattle.std.specs.Prelude.{◌≡◌, ℕ, ◌+◌, ◌*◌, ◌/◌, ◌%◌, ◌<◌, pos, negsuc, suc, nat_lt, if◌then◌else◌, Option, Some, slice_get}
use Rattle.gate_model.specs.declared.key.Key.{Key}
use Rattle.gate_model.specs.picture.KeyGrid.{KeyGrid}
use Rattle.gate_model.specs.picture.Pictures.{key_at}
use Rattle.gate_model.specs.picture.Glyphs.{glyph}
use Rattle.gate_model.specs.picture.Layers.{Layers, IsAlike, HasNoPaths, empty_layer}
use Rattle.gate_model.specs.picture.Buffers.{Buffers, layer_of}

-- what is known of each place of the screen, row by row
abbrev pub Places : Type 0
Places = ℕ → Option Key

-- the visible layer has the screen's size and, at each place whose key is known, that key's glyph; each
-- buffer has the glyph of its key; there is no other layer, and nothing is unfilled
pub record AreDrawn (m : Layers) (cols rows : ℕ) (at : Places) (keys : Buffers) : Type 0 where
  pub width : (m (pos 0)).width ≡ 8 * cols
  pub height : (m (pos 0)).height ≡ 16 * rows
  pub pixels : (x y : ℕ) (key : Key) → x < 8 * cols → y < 16 * rows → at ((y / 16) * cols + x / 8) ≡ Some key → (m (pos 0)).pixel x y ≡ Some (glyph key (x % 8) (y % 16))
  pub buffers : (n : ℕ) → IsAlike (m (negsuc n)) (layer_of (slice_get keys n))
  pub others : (n : ℕ) → IsAlike (m (pos (suc n))) empty_layer
  pub no_paths : HasNoPaths m

-- the first places have their new key, the others what they had
abbrev pub mixed : KeyGrid → Places → ℕ → Places
mixed now rest place p = if nat_lt p place then Some (key_at now.keys p) else rest p
