-- Glyph buffers: layers that hold one glyph each, from which a frame copies cells (this project's own).
use Rattle.std.specs.Prelude.{◌≡◌, zero, suc, ◌*◌, ℤ, pos, negsuc, List, [], ◌∷◌, Bool, not, ◌&&◌, ◌||◌, ◌==◌, false, if◌then◌else◌, Option, Some, None, slice_get}
use Rattle.std.specs.List.{list_any}
use Rattle.gate_model.specs.declared.instr.Instr.{Instr}
use Rattle.gate_model.specs.declared.key.Key.{Key}
use Rattle.gate_model.specs.picture.Glyphs.{glyph}
use Rattle.gate_model.specs.picture.KeyGrid.{KeyGrid}
use Rattle.gate_model.specs.picture.Pictures.{picture}
use Rattle.gate_model.specs.picture.Layers.{Layer, Layers, HasNoPaths, Same, draw, empty_layer}

-- the keys of the buffers: that of layer -1 first, then that of layer -2, and so on
abbrev pub Buffers : Type 0
Buffers = List Key

-- the key of a layer's buffer, if the layer is one
abbrev pub buffer_key : Buffers → ℤ → Option Key
buffer_key keys (pos n) = None
buffer_key keys (negsuc n) = slice_get keys n

-- a layer with one glyph, and nothing unfilled
abbrev pub glyph_layer : Key → Layer
glyph_layer key = record { width = 8; height = 16; pixel = λ x y. Some (glyph key x y); path = []; filled = false }

-- a layer with the picture of a screen
abbrev pub picture_layer : KeyGrid → Layer
picture_layer s = record { width = 8 * s.cols; height = 16 * s.rows; pixel = λ x y. Some (picture s x y); path = []; filled = false }

abbrev pub layer_of : Option Key → Layer
layer_of None = empty_layer
layer_of (Some key) = glyph_layer key

-- the picture as the visible layer, the glyph of its key in each buffer, and no other layer
abbrev pub layers : KeyGrid → Buffers → Layers
layers s keys (pos zero) = picture_layer s
layers s keys (pos (suc n)) = empty_layer
layers s keys (negsuc n) = layer_of (slice_get keys n)

-- the layers are those of the screen and the buffers, and nothing is unfilled
pub record AreLayers (m : Layers) (s : KeyGrid) (keys : Buffers) : Type 0 where
  pub same : Same m (layers s keys)
  pub no_paths : HasNoPaths m

-- over layers of the old screen and buffers, the instructions leave those of the new ones
abbrev pub Renews : KeyGrid → Buffers → List Instr → KeyGrid → Buffers → Type 0
Renews old before is new after = (m : Layers) → AreLayers m old before → AreLayers (draw m is) new after

-- each layer that has a size in the first map has one in the second
abbrev pub IsWithin : Layers → Layers → Type 0
IsWithin m n = (k : ℤ) → (n k).width ≡ 0 → (n k).height ≡ 0 → ((m k).width ≡ 0) × ((m k).height ≡ 0)

-- over any layers that have nothing unfilled, and in which each layer with a size is the visible one or has
-- a buffer, the instructions leave the layers of the screen and the buffers
abbrev pub Makes : List Instr → KeyGrid → Buffers → Type 0
Makes is s keys = (m : Layers) → HasNoPaths m → IsWithin m (layers s keys) → Same (draw m is) (layers s keys)

-- ---- which keys have a buffer

abbrev pub is_same_key : Key → Key → Bool
is_same_key a b = a.face == b.face && a.ink == b.ink && a.paper == b.paper && (a.under && b.under || not a.under && not b.under)

abbrev pub is_held : Buffers → Key → Bool
is_held keys key = list_any (is_same_key key) keys

-- the keys among others that aren't held yet, each once, in their order
abbrev pub new_keys : Buffers → List Key → List Key
new_keys held [] = []
new_keys held (key ∷ keys) = if is_held held key then new_keys held keys else key ∷ new_keys (key ∷ held) keys
