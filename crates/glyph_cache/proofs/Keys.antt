-- Keys that are the same.
use Rattle.std.proofs.Common.{◌≡◌, ◌==◌, ℕ, Bool, true, false, ◌&&◌, ◌||◌, not, refl, sym, ap, rules, arith, true≢false}
use Rattle.std.specs.Cmp.{IsEquivalence, decided}
use Rattle.gate_model.specs.declared.key.Key.{Key}
use Rattle.gate_model.specs.picture.Buffers.{is_same_key}
use Rattle.glyph_cache.specs.declared.hash_key.HashKey.{HashKey}
use Rattle.glyph_cache.specs.Tied.{is_equal}

pub same_refl : (a : Key) → is_same_key a a ≡ true
same_refl a = grind rules

pub same_is : (a b : Key) → is_same_key a b ≡ true → a ≡ b
same_is a b h = grind rules

pub equal_is : (a b : HashKey) → is_equal a b ≡ true → a ≡ b
equal_is a b h = ap (λ k. record { key = k }) (same_is a.key b.key h)

pub laws : IsEquivalence is_equal
laws = decided is_equal (λ a b. (equal_is a b, λ e. grind (rules, same_refl)))
