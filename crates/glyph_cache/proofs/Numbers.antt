-- Keys by the number of their buffer.
use Rattle.std.proofs.Common.{◌≡◌, ℕ, zero, suc, ◌<◌, ◌⊎◌, inl, inr, Bool, true, false, List, [], ◌∷◌, ◌++◌, length, set, refl, sym, ap, ◌∙◌, rules, true≢false, le_of_suc-le-suc, not-suc-le-zero}
use Rattle.std.specs.Prelude.{Some, None, slice_get, slice_set}
use Rattle.std.specs.List.{AllByRecursion, IsDistinct}
use Rattle.std.proofs.lemmas.Map.Keys.{IsDistinct-cons}
use Rattle.gate_model.specs.declared.key.Key.{Key}
use Rattle.gate_model.specs.picture.Buffers.{Buffers, is_held, is_same_key}
use Rattle.glyph_cache.proofs.Keys.{same_is, same_refl}

-- a key that is held has a number
pub number_of : (keys : Buffers) (key : Key) → is_held keys key ≡ true → (n : ℕ) × (slice_get keys n ≡ Some key)
number_of [] key h = absurd (true≢false (sym h))
number_of (k ∷ keys) key h = (elim (is_same_key key k) as (λ b. is_same_key key k ≡ b → (n : ℕ) × (slice_get (k ∷ keys) n ≡ Some key)) [
  | true ↦ λ e. (0, ap Some (sym (same_is key k e)))
  | false ↦ λ e. let r = number_of keys key (rw e at h) in (suc r.0, r.1)
]) refl

-- a key with a number is held
pub held_at : (keys : Buffers) (key : Key) (n : ℕ) → slice_get keys n ≡ Some key → is_held keys key ≡ true
held_at [] key n h = cc
held_at (k ∷ keys) key zero h = let same : k ≡ key = cc in rw (same, same_refl key)
held_at (k ∷ keys) key (suc n) h = (elim (is_same_key key k) as (λ b. is_same_key key k ≡ b → is_held (k ∷ keys) key ≡ true) [
  | true ↦ λ e. rw e
  | false ↦ λ e. rw (e, held_at keys key n h)
]) refl

-- a key without a number is none of them
apart : (k : Key) (keys : Buffers) → ((m : ℕ) → ¬ (slice_get keys m ≡ Some k)) → AllByRecursion (λ y. is_same_key k y ≡ false) keys
apart k [] h = tt
apart k (x ∷ keys) h = (
  (elim (is_same_key k x) as (λ b. is_same_key k x ≡ b → is_same_key k x ≡ false) [
    | true ↦ λ e. absurd (h 0 (ap Some (sym (same_is k x e))))
    | false ↦ λ e. e
  ]) refl,
  apart k keys (λ m. h (suc m)),
)

-- keys with one number each are distinct
pub distinct_keys : (keys : Buffers) → ((n m : ℕ) (k : Key) → slice_get keys n ≡ Some k → slice_get keys m ≡ Some k → n ≡ m) → IsDistinct is_same_key keys
unfolding IsDistinct
distinct_keys [] h = tt
distinct_keys (k ∷ keys) h = (
  apart k keys (λ m e. let z : 0 ≡ suc m = h 0 (suc m) k refl e in cc),
  distinct_keys keys (λ n m x a b. let s : suc n ≡ suc m = h (suc n) (suc m) x a b in cc),
)

-- ---- one more key, and another key in the place of one

pub at_end : (keys : Buffers) (key : Key) → slice_get (keys ++ key ∷ []) (length keys) ≡ Some key
at_end [] key = refl
at_end (k ∷ keys) key = at_end keys key

pub kept_before : (keys : Buffers) (key k : Key) (n : ℕ) → slice_get keys n ≡ Some k → slice_get (keys ++ key ∷ []) n ≡ Some k
kept_before [] key k n h = cc
kept_before (x ∷ keys) key k zero h = h
kept_before (x ∷ keys) key k (suc n) h = kept_before keys key k n h

-- a key among one more is the last or was there
pub was_before : (keys : Buffers) (key k : Key) (n : ℕ) → slice_get (keys ++ key ∷ []) n ≡ Some k → ((n ≡ length keys) × (k ≡ key)) ⊎ (slice_get keys n ≡ Some k)
was_before [] key k zero h = inl (refl, cc)
was_before [] key k (suc n) h = cc
was_before (x ∷ keys) key k zero h = inr h
was_before (x ∷ keys) key k (suc n) h = elim (was_before keys key k n h) [
  | inl e ↦ inl (ap suc e.0, e.1)
  | inr e ↦ inr e
]

pub in_place : (keys : Buffers) (n : ℕ) (key : Key) → n < length keys → slice_get (slice_set keys n key) n ≡ Some key
in_place [] n key h = absurd (not-suc-le-zero h)
in_place (k ∷ keys) zero key h = refl
in_place (k ∷ keys) (suc n) key h = in_place keys n key (le_of_suc-le-suc h)

pub beside : (keys : Buffers) (n m : ℕ) (key : Key) → ¬ (m ≡ n) → slice_get (slice_set keys n key) m ≡ slice_get keys m
beside [] n m key h = refl
beside (k ∷ keys) zero zero key h = absurd (h refl)
beside (k ∷ keys) zero (suc m) key h = refl
beside (k ∷ keys) (suc n) zero key h = refl
beside (k ∷ keys) (suc n) (suc m) key h = beside keys n m key (λ e. h (ap suc e))
