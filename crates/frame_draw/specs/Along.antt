-- How far a frame has come, place by place (this project's own).
use Rattle.std.specs.Prelude.{◌≡◌, ℕ, zero, suc, ◌+◌, ◌-◌, ◌*◌, ◌<◌, ◌≤◌, ◌==◌, ℤ, negsuc, List, [], ◌∷◌, ◌++◌, length, take, drop, map, filter, Bool, true, false, ◌||◌, if◌then◌else◌, Option, Some, None, slice_get, slice_index_or}
use Rattle.std.specs.List.{range_with_len}
use Rattle.gate_model.specs.declared.instr.Instr.{Instr}
use Rattle.gate_model.specs.declared.key.Key.{Key}
use Rattle.gate_model.specs.picture.KeyGrid.{KeyGrid}
use Rattle.gate_model.specs.picture.Pictures.{key_at}
use Rattle.gate_model.specs.picture.Layers.{Layers, draw}
use Rattle.gate_model.specs.picture.Shape.{AreReadable, Draws}
use Rattle.gate_model.specs.picture.Buffers.{Buffers, new_keys}
use Rattle.glyph_cache.specs.declared.slot.SlotKind.{SlotKind}
use Rattle.glyph_cache.specs.Cache.{Gets}
use Rattle.dirty_region.specs.Places.{place_of}
use Rattle.frame_draw.specs.declared.wanted.Wanted.{Wanted}
use Rattle.frame_draw.specs.declared.wanted.Wanted.TheVariants.{All, Listed, Unlike}
use Rattle.frame_draw.specs.Strokes.{painting}
use Rattle.frame_draw.specs.Cells.{Places, AreDrawn, mixed}
use Rattle.frame_draw.specs.Fresh.{is_fresh}

-- the layer is the buffer of the key
pub record IsBufferOf (keys : Buffers) (key : Key) (layer : ℤ) : Type 0 where
  pub n : ℕ
  pub number : layer ≡ negsuc n
  pub small : n < 1024
  pub got : slice_get keys n ≡ Some key

-- the key has that buffer now, which was painted where it is new
pub record Holds (list : List Instr) (keys : Buffers) (key : Key) (layer : ℤ) (longer : List Instr) (more : Buffers) : Type 0 where
  pub kind : SlotKind
  pub n : ℕ
  pub number : layer ≡ negsuc n
  pub small : n < 1024
  pub gets : Gets keys key kind n more
  pub painted : longer ≡ list ++ painting kind layer key

-- how many of the first places pass a test
abbrev pub count_below : (ℕ → Bool) → ℕ → ℕ
count_below p zero = 0
count_below p (suc n) = count_below p n + (if p n then 1 else 0)

-- a place that isn't copied has its new key already
abbrev pub Fits : KeyGrid → Places → (ℕ → Bool) → Type 0
Fits now rest copies = (place : ℕ) → copies place ≡ false → rest place ≡ Some (key_at now.keys place)

-- the keys that have a buffer after the first places
abbrev pub held_after : KeyGrid → Buffers → ℕ → Buffers
held_after now before seen = before ++ new_keys before (take seen now.keys)

-- the first `seen` places have a buffer, and the first `drawn` are drawn, each of them copied that `copies` names
pub record Along (now : KeyGrid) (first : List Instr) (before : Buffers) (rest : Places) (copies : ℕ → Bool) (drawn seen : ℕ) (list : List Instr) (keys : Buffers) : Type 0 where
  pub more : List Instr
  pub added : list ≡ first ++ more
  pub layers : (m : Layers) → AreDrawn m now.cols now.rows rest before → AreDrawn (draw m more) now.cols now.rows (mixed now rest drawn) keys
  pub draws : Draws now.cols now.rows [] more
  pub readable : AreReadable more
  pub stays : length before ≤ length keys
  pub exact : length (held_after now before seen) ≤ 1024 → keys ≡ held_after now before seen
  pub short : length (held_after now before seen) ≤ 1024 → length more ≤ count_below copies drawn + 25 * length (new_keys before (take seen now.keys))

-- ---- which places are copied, where a list names them row by row
-- the place is wanted; what stands past the end of the flags is
abbrev pub is_on : List Bool → ℕ → Bool
is_on flags place = slice_index_or flags place true

-- the entry is that place
abbrev pub is_at : Option (ℕ × ℕ) → ℕ → ℕ → Bool
is_at None place cols = false
is_at (Some p) place cols = p.1 * cols + p.0 == place

-- the place is the next of those that are copied
abbrev pub is_next : Wanted → ℕ → ℕ → ℕ → Bool
is_next All at place cols = true
is_next (Listed list) at place cols = is_at (slice_get list.now at) place cols
is_next (Unlike old new) at place cols = is_fresh cols old.now new.now.keys place

-- one of the entries is that place
abbrev pub is_marked : ℕ → List (ℕ × ℕ) → ℕ → Bool
is_marked cols [] place = false
is_marked cols (p ∷ list) place = is_at (Some p) place cols || is_marked cols list place

-- from its entry `at` on, the list has the places from `place` on that `copies` names
abbrev pub IsLeft : ℕ → ℕ → (ℕ → Bool) → Wanted → ℕ → ℕ → Type 0
IsLeft cols total copies All at place = (p : ℕ) → copies p ≡ true
IsLeft cols total copies (Listed list) at place = drop at list.now ≡ map (place_of cols) (filter copies (range_with_len place (total - place)))
IsLeft cols total copies (Unlike old new) at place = (p : ℕ) → copies p ≡ is_fresh cols old.now new.now.keys p
