-- Entries under keys: what a look-up finds once one of them went first, was added or went.
use Rattle.std.proofs.Common.{◌≡◌, ℕ, zero, suc, ◌<◌, Bool, true, false, cond, not, List, [], ◌∷◌, ◌++◌, length, map, refl, sym, ap, ◌∙◌, subst, rules, true≢false}
use Rattle.std.specs.Prelude.{Option, Some, None, is_some, filter}
use Rattle.std.specs.List.{AllByRecursion, IsDistinct}
use Rattle.std.specs.Map.{keys_of, lookup, lookup_entry, remove_entry}
use Rattle.std.proofs.lemmas.Map.{lookup-remove_entry}
use Rattle.std.proofs.lemmas.Map.Keys.{IsDistinct-cons, IsDistinct-head, IsDistinct-tail}
use Rattle.lru.specs.LruCache.{promoted}
use Rattle.lru.proofs.CallerLemmas.{Contains-lookup_entry}
use Rattle.gate_model.specs.declared.key.Key.{Key}
use Rattle.gate_model.specs.picture.Buffers.{is_held, is_same_key}
use Rattle.glyph_cache.specs.Cache.{without}
use Rattle.glyph_cache.specs.declared.hash_key.HashKey.{HashKey}
use Rattle.glyph_cache.specs.Tied.{is_equal, keys_in}
use Rattle.glyph_cache.proofs.Keys.{equal_is, laws, same_is}

abbrev pub Entries : Type 0
Entries = List (HashKey × ℕ)

module _ (k : HashKey) where
  pub entry_none : (es : Entries) → lookup (is_equal k) es ≡ None → lookup_entry (is_equal k) es ≡ None
  entry_none [] h = refl
  entry_none (e ∷ es) h = (elim (is_equal k e.0) as (λ b. is_equal k e.0 ≡ b → lookup_entry (is_equal k) (e ∷ es) ≡ None) [
    | true ↦ λ t. let h' = rw t at h in cc
    | false ↦ λ t. rw (t, entry_none es (rw t at h))
  ]) refl

  pub entry_some : (es : Entries) (n : ℕ) → lookup (is_equal k) es ≡ Some n → lookup_entry (is_equal k) es ≡ Some (k, n)
  entry_some [] n h = cc
  entry_some (e ∷ es) n h = (elim (is_equal k e.0) as (λ b. is_equal k e.0 ≡ b → lookup_entry (is_equal k) (e ∷ es) ≡ Some (k, n)) [
    | true ↦ λ t. let h' = rw t at h in let same : k ≡ e.0 = equal_is k e.0 t in let number : e.1 ≡ n = cc in rw t (ap Some (subst (λ j. e ≡ (j, n)) (sym same) (subst (λ m. e ≡ (e.0, m)) number refl)))
    | false ↦ λ t. rw (t, entry_some es n (rw t at h))
  ]) refl

  pub none_apart : (es : Entries) → lookup (is_equal k) es ≡ None → AllByRecursion (λ y. is_equal k y ≡ false) (keys_of es)
  none_apart [] h = tt
  none_apart (e ∷ es) h = (elim (is_equal k e.0) as (λ b. is_equal k e.0 ≡ b → AllByRecursion (λ y. is_equal k y ≡ false) (keys_of (e ∷ es))) [
    | true ↦ λ t. let h' = rw t at h in cc
    | false ↦ λ t. (t, none_apart es (rw t at h))
  ]) refl

  pub apart_none : (es : Entries) → AllByRecursion (λ y. is_equal k y ≡ false) (keys_of es) → lookup (is_equal k) es ≡ None
  apart_none [] h = refl
  apart_none (e ∷ es) h = rw (h.0, apart_none es h.1)

  -- ---- the entry of a key taken out

  pub length_removed : (es : Entries) (n : ℕ) → lookup (is_equal k) es ≡ Some n → suc (length (remove_entry (is_equal k) es)) ≡ length es
  length_removed [] n h = cc
  length_removed (e ∷ es) n h = (elim (is_equal k e.0) as (λ b. is_equal k e.0 ≡ b → suc (length (remove_entry (is_equal k) (e ∷ es))) ≡ length (e ∷ es)) [
    | true ↦ λ t. rw t
    | false ↦ λ t. rw t (ap suc (length_removed es n (rw t at h)))
  ]) refl

  apart_removed : (j : HashKey) (es : Entries) → AllByRecursion (λ y. is_equal j y ≡ false) (keys_of es) → AllByRecursion (λ y. is_equal j y ≡ false) (keys_of (remove_entry (is_equal k) es))
  apart_removed j [] h = tt
  apart_removed j (e ∷ es) h = (elim (is_equal k e.0) as (λ b. is_equal k e.0 ≡ b → AllByRecursion (λ y. is_equal j y ≡ false) (keys_of (remove_entry (is_equal k) (e ∷ es)))) [
    | true ↦ λ t. rw t h.1
    | false ↦ λ t. rw t (h.0, apart_removed j es h.1)
  ]) refl

  pub distinct_removed : (es : Entries) → IsDistinct is_equal (keys_of es) → IsDistinct is_equal (keys_of (remove_entry (is_equal k) es))
  unfolding IsDistinct
  distinct_removed [] h = tt
  distinct_removed (e ∷ es) h = (elim (is_equal k e.0) as (λ b. is_equal k e.0 ≡ b → IsDistinct is_equal (keys_of (remove_entry (is_equal k) (e ∷ es)))) [
    | true ↦ λ t. rw t h.1
    | false ↦ λ t. rw t (apart_removed e.0 es h.0, distinct_removed es h.1)
  ]) refl

  -- nothing is under the key any more, and the rest is as it was
  pub lookup_removed : (q : HashKey) (es : Entries) → IsDistinct is_equal (keys_of es) → lookup (is_equal q) (remove_entry (is_equal k) es) ≡ cond (is_equal k q) None (lookup (is_equal q) es)
  lookup_removed q es d = lookup-remove_entry laws (is_equal k) (λ x y t. laws.congr k x y t) q es d

-- ---- the entry of a key first

module _ (k : HashKey) (es : Entries) (n : ℕ) (is : lookup (is_equal k) es ≡ Some n) where
  promoted_is : promoted (is_equal k) es ≡ (k, n) ∷ remove_entry (is_equal k) es
  promoted_is = rw (entry_some k es n is)

  pub length_promoted : length (promoted (is_equal k) es) ≡ length es
  length_promoted = rw promoted_is (length_removed k es n is)

  pub distinct_promoted : IsDistinct is_equal (keys_of es) → IsDistinct is_equal (keys_of (promoted (is_equal k) es))
  distinct_promoted d = rw promoted_is (IsDistinct-cons is_equal k (keys_of (remove_entry (is_equal k) es))
      (none_apart k (remove_entry (is_equal k) es) (lookup_removed k k es d ∙ ap (λ b. cond b None (lookup (is_equal k) es)) (laws.refl k)))
      (distinct_removed k es d))

  -- a look-up finds what it found
  pub lookup_promoted : (q : HashKey) → IsDistinct is_equal (keys_of es) → lookup (is_equal q) (promoted (is_equal k) es) ≡ lookup (is_equal q) es
  lookup_promoted q d = rw promoted_is ((elim (is_equal q k) as (λ b. is_equal q k ≡ b → cond (is_equal q k) (Some n) (lookup (is_equal q) (remove_entry (is_equal k) es)) ≡ lookup (is_equal q) es) [
    | true ↦ λ t. rw t (sym (subst (λ j. lookup (is_equal j) es ≡ Some n) (sym (equal_is q k t)) is))
    | false ↦ λ t. rw t (lookup_removed k q es d ∙ ap (λ b. cond b None (lookup (is_equal q) es)) (laws.symm k q ∙ t))
  ]) refl)

-- ---- the keys in the order of use

-- a key is among them where a look-up finds something
pub held_in : (es : Entries) (key : Key) → is_held (keys_in es) key ≡ is_some (lookup (is_equal (record { key = key })) es)
held_in [] key = refl
held_in (e ∷ es) key = (elim (is_same_key key e.0.key) as (λ b. is_same_key key e.0.key ≡ b → is_held (keys_in (e ∷ es)) key ≡ is_some (lookup (is_equal (record { key = key })) (e ∷ es))) [
  | true ↦ λ t. rw t
  | false ↦ λ t. rw (t, held_in es key)
]) refl

apart_in : (k : HashKey) (es : Entries) → AllByRecursion (λ y. is_equal k y ≡ false) (keys_of es) → AllByRecursion (λ y. is_same_key k.key y ≡ false) (keys_in es)
apart_in k [] h = tt
apart_in k (e ∷ es) h = (h.0, apart_in k es h.1)

pub distinct_in : (es : Entries) → IsDistinct is_equal (keys_of es) → IsDistinct is_same_key (keys_in es)
unfolding IsDistinct
distinct_in [] h = tt
distinct_in (e ∷ es) h = (apart_in e.0 es h.0, distinct_in es h.1)

pub length_in : (es : Entries) → length (keys_in es) ≡ length es
length_in [] = refl
length_in (e ∷ es) = ap suc (length_in es)

without_none : (k : HashKey) (es : Entries) → AllByRecursion (λ y. is_equal k y ≡ false) (keys_of es) → without k.key (keys_in es) ≡ keys_in es
without_none k [] h = refl
without_none k (e ∷ es) h = rw (h.0, without_none k es h.1)

without_removed : (k : HashKey) (es : Entries) → IsDistinct is_equal (keys_of es) → without k.key (keys_in es) ≡ keys_in (remove_entry (is_equal k) es)
unfolding IsDistinct
without_removed k [] h = refl
without_removed k (e ∷ es) h = (elim (is_equal k e.0) as (λ b. is_equal k e.0 ≡ b → without k.key (keys_in (e ∷ es)) ≡ keys_in (remove_entry (is_equal k) (e ∷ es))) [
  | true ↦ λ t. rw t (without_none k es (subst (λ j. AllByRecursion (λ y. is_equal j y ≡ false) (keys_of es)) (sym (equal_is k e.0 t)) h.0))
  | false ↦ λ t. rw (t, without_removed k es h.1)
]) refl

-- the key goes first, and the others keep their order
pub keys_promoted : (k : HashKey) (es : Entries) (n : ℕ) → lookup (is_equal k) es ≡ Some n → IsDistinct is_equal (keys_of es) → keys_in (promoted (is_equal k) es) ≡ k.key ∷ without k.key (keys_in es)
keys_promoted k es n is d = rw (entry_some k es n is) (ap (λ l. k.key ∷ l) (sym (without_removed k es d)))

-- ---- the last entry

module _ (e : HashKey × ℕ) where
  -- another number isn't that of the last
  pub before_last : (xs : Entries) (q : HashKey) (m : ℕ) → lookup (is_equal q) (xs ++ e ∷ []) ≡ Some m → ¬ (m ≡ e.1) → lookup (is_equal q) xs ≡ Some m
  before_last [] q m h ne = (elim (is_equal q e.0) as (λ b. is_equal q e.0 ≡ b → lookup (is_equal q) [] ≡ Some m) [
    | true ↦ λ t. let h' = rw t at h in absurd (ne cc)
    | false ↦ λ t. rw t at h
  ]) refl
  before_last (x ∷ xs) q m h ne = (elim (is_equal q x.0) as (λ b. is_equal q x.0 ≡ b → lookup (is_equal q) (x ∷ xs) ≡ Some m) [
    | true ↦ λ t. rw t (rw t at h)
    | false ↦ λ t. rw t (before_last xs q m (rw t at h) ne)
  ]) refl

  -- what is found before the last is found
  pub found_before : (xs : Entries) (q : HashKey) (m : ℕ) → lookup (is_equal q) xs ≡ Some m → lookup (is_equal q) (xs ++ e ∷ []) ≡ Some m
  found_before [] q m h = cc
  found_before (x ∷ xs) q m h = (elim (is_equal q x.0) as (λ b. is_equal q x.0 ≡ b → lookup (is_equal q) ((x ∷ xs) ++ e ∷ []) ≡ Some m) [
    | true ↦ λ t. rw t (rw t at h)
    | false ↦ λ t. rw t (found_before xs q m (rw t at h))
  ]) refl

  at_last : (P : HashKey → Type 0) (xs : Entries) → AllByRecursion P (keys_of (xs ++ e ∷ [])) → P e.0
  at_last P [] h = h.0
  at_last P (x ∷ xs) h = at_last P xs h.1

  all_before : (P : HashKey → Type 0) (xs : Entries) → AllByRecursion P (keys_of (xs ++ e ∷ [])) → AllByRecursion P (keys_of xs)
  all_before P [] h = tt
  all_before P (x ∷ xs) h = (h.0, all_before P xs h.1)

  pub distinct_before : (xs : Entries) → IsDistinct is_equal (keys_of (xs ++ e ∷ [])) → IsDistinct is_equal (keys_of xs)
  unfolding IsDistinct
  distinct_before [] h = tt
  distinct_before (x ∷ xs) h = (all_before (λ y. is_equal x.0 y ≡ false) xs h.0, distinct_before xs h.1)

  -- the last key is under no other number
  pub last_alone : (xs : Entries) → IsDistinct is_equal (keys_of (xs ++ e ∷ [])) → lookup (is_equal e.0) xs ≡ None
  unfolding IsDistinct
  last_alone [] h = refl
  last_alone (x ∷ xs) h = rw (laws.symm e.0 x.0 ∙ at_last (λ y. is_equal x.0 y ≡ false) xs h.0, last_alone xs h.1)

  -- a look-up of it finds it
  pub last_found : (xs : Entries) → IsDistinct is_equal (keys_of (xs ++ e ∷ [])) → lookup (is_equal e.0) (xs ++ e ∷ []) ≡ Some e.1
  unfolding IsDistinct
  last_found [] h = rw (laws.refl e.0)
  last_found (x ∷ xs) h = rw (laws.symm e.0 x.0 ∙ at_last (λ y. is_equal x.0 y ≡ false) xs h.0, last_found xs h.1)

-- distinct keys after some of them
pub distinct_after : (xs ys : Entries) → IsDistinct is_equal (keys_of (xs ++ ys)) → IsDistinct is_equal (keys_of ys)
unfolding IsDistinct
distinct_after [] ys h = h
distinct_after (x ∷ xs) ys h = distinct_after xs ys h.1
