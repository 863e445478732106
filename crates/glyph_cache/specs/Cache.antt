-- Which key has which buffer, and in which order the keys were used (this project's own).
use Rattle.std.specs.Prelude.{◌≡◌, ℕ, ◌<◌, ◌≤◌, List, [], ◌∷◌, ◌++◌, length, take, filter, Bool, not, false, Some, slice_get, slice_set}
use Rattle.std.specs.List.{IsDistinct}
use Rattle.gate_model.specs.declared.key.Key.{Key}
use Rattle.gate_model.specs.picture.Buffers.{Buffers, is_held, is_same_key}
use Rattle.gate_model.specs.terminal.Screens.{AreColoured}
use Rattle.glyph_cache.specs.declared.slot.SlotKind.{SlotKind}
use Rattle.glyph_cache.specs.declared.slot.SlotKind.TheVariants.{Held, Made, Reused}

pub record CacheState : Type 0 where
  -- the key of each buffer, that of layer -1 first
  pub keys : Buffers
  -- the same keys, the one used last first
  pub order : List Key

-- what holds of every cache: no key has two buffers, there are at most 1,024, ink and paper of each key are
-- indexes of the palette, and the keys with a buffer are those in the order of use
pub record IsCache (c : CacheState) : Type 0 where
  pub distinct : IsDistinct is_same_key c.keys
  pub few : length c.keys ≤ 1024
  pub coloured : AreColoured c.keys
  pub once : IsDistinct is_same_key c.order
  pub alike : length c.order ≡ length c.keys
  pub among : (key : Key) → is_held c.order key ≡ is_held c.keys key

-- a call found, made or took a buffer for the key: that number n, which is layer negsuc n
abbrev pub Gets : Buffers → Key → SlotKind → ℕ → Buffers → Type 0
Gets before key Held n after = (slice_get before n ≡ Some key) × (after ≡ before)
Gets before key Made n after = (is_held before key ≡ false) × (n ≡ length before) × (n < 1024) × (after ≡ before ++ key ∷ [])
Gets before key Reused n after = (is_held before key ≡ false) × (length before ≡ 1024) × (n < 1024) × (after ≡ slice_set before n key)

-- the others, in their order
abbrev pub without : Key → List Key → List Key
without key keys = filter (λ k. not (is_same_key key k)) keys

-- the key became the one used last, and the others kept their order; a buffer that was taken is that of the
-- key used longest ago, which is gone
abbrev pub IsUsed : CacheState → Key → SlotKind → ℕ → List Key → Type 0
IsUsed before key Held n after = after ≡ key ∷ without key before.order
IsUsed before key Made n after = after ≡ key ∷ before.order
IsUsed before key Reused n after = (slice_get before.order 1023 ≡ slice_get before.keys n) × (after ≡ key ∷ take 1023 before.order)

-- the buffer of the key used longest ago became the key's
pub record IsTaken (before : CacheState) (key : Key) (n : ℕ) (after : CacheState) : Type 0 where
  pub last : slice_get before.order 1023 ≡ slice_get before.keys n
  pub keys : after.keys ≡ slice_set before.keys n key
  pub order : after.order ≡ key ∷ take 1023 before.order
