-- How a cache is held: a map by key with the number of each buffer, and beside it the keys by number.
use Rattle.std.specs.Prelude.{◌≡◌, ℕ, ◌≤◌, Bool, List, map, length, Some, slice_get}
use Rattle.std.specs.List.{IsDistinct}
use Rattle.std.specs.Map.{lookup, keys_of}
use Rattle.lru.specs.LruCache.{LruCache}
use Rattle.gate_model.specs.declared.key.Key.{Key}
use Rattle.gate_model.specs.picture.Buffers.{Buffers, is_same_key}
use Rattle.gate_model.specs.terminal.Screens.{AreColoured}
use Rattle.glyph_cache.specs.declared.hash_key.HashKey.{HashKey}

abbrev pub is_equal : HashKey → HashKey → Bool
is_equal a b = is_same_key a.key b.key

-- the keys in the order of use
abbrev pub keys_in : List (HashKey × ℕ) → List Key
keys_in entries = map (λ e. e.0.key) entries

-- the map's entries and the keys by number say the same
pub record IsTied (slots : LruCache HashKey ℕ) (keys : Buffers) : Type 0 where
  pub cap : slots.cap ≡ 1024
  pub room : length slots.entries ≡ length keys
  pub few : length keys ≤ 1024
  pub distinct : IsDistinct is_equal (keys_of slots.entries)
  pub found : (n : ℕ) (k : Key) → slice_get keys n ≡ Some k → lookup (is_equal (record { key = k })) slots.entries ≡ Some n
  pub back : (k : HashKey) (n : ℕ) → lookup (is_equal k) slots.entries ≡ Some n → slice_get keys n ≡ Some k.key
  pub coloured : AreColoured keys
