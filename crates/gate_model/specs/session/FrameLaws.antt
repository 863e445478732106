-- Laws of glyph buffers and of what a frame may cost, which public functions of `laws::frames` prove.
use Rattle.std.specs.Prelude.{◌≡◌, ◌↔◌, ◌≤◌, ℕ, List, [], ◌++◌, min, ◌||◌, IsTrue}
use Rattle.std.specs.List.{list_all}
use Rattle.gate_model.specs.declared.instr.Instr.{Instr}
use Rattle.gate_model.specs.declared.key.Key.{Key}
use Rattle.gate_model.specs.picture.KeyGrid.{KeyGrid}
use Rattle.gate_model.specs.picture.Layers.{HasNoPaths, Layers, Same, draw, nothing, visible}
use Rattle.gate_model.specs.picture.Shape.{Shape}
use Rattle.gate_model.specs.picture.Frames.{IsDrawn}
use Rattle.gate_model.specs.picture.Buffers.{Buffers, AreLayers, is_same_key, is_held, new_keys}
use Rattle.gate_model.specs.session.Cost.{changes}

-- ---- layers

-- the visible layer of a screen and its buffers is drawn
abbrev pub LayersAreDrawn : Type 0
LayersAreDrawn = (m : Layers) (s : KeyGrid) (keys : Buffers) → AreLayers m s keys → IsDrawn (m visible) s

-- no layers are those of a screen without places and of no buffer
abbrev pub NothingIsLayers : Type 0
NothingIsLayers = AreLayers nothing record { cols = 0; rows = 0; keys = [] } []

-- layers that are the same, with nothing unfilled, stay so under each list that has the shape of a frame
abbrev pub SamenessGoesOn : Type 0
SamenessGoesOn = (cols rows t : ℕ) (is : List Instr) (m n : Layers) → Shape cols rows is t → Same m n → HasNoPaths m → HasNoPaths n → Same (draw m is) (draw n is)

-- ---- keys

-- two keys are the same where the test says so, and nowhere else
abbrev pub SameKeysAreEqual : Type 0
SameKeysAreEqual = (a b : Key) → IsTrue (is_same_key a b) ↔ (a ≡ b)

-- nothing is new where every key is held
abbrev pub HeldAreNotNew : Type 0
HeldAreNotNew = (held keys : Buffers) → IsTrue (list_all (is_held held) keys) → new_keys held keys ≡ []

-- with the new ones just the keys are held that were held or are among the others
abbrev pub NewKeysAreAdded : Type 0
NewKeysAreAdded = (held keys : Buffers) (key : Key) → is_held (held ++ new_keys held keys) key ≡ (is_held held key || is_held keys key)

-- ---- places

-- to count scrolled lines no further than some number, which is at least that of the rows, changes nothing
abbrev pub ChangesOfFewLines : Type 0
ChangesOfFewLines = (old new : KeyGrid) (shift most : ℕ) → old.rows ≤ most → changes old new (min shift most) ≡ changes old new shift
