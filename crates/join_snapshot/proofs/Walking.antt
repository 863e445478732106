-- The loops of a snapshot go on by one buffer, and by one place.
use Rattle.std.proofs.Common.{◌≡◌, ℕ, zero, suc, ◌+◌, ◌/◌, ◌%◌, ◌<◌, List, [], ◌∷◌, ◌++◌, length, Bool, refl, sym, ap, subst, ◌∙◌, append_assoc, append-nil, slice_index_or, arith}
use Rattle.std.specs.Prelude.{Option, slice_get}
use Rattle.gate_model.specs.declared.instr.Instr.{Instr}
use Rattle.gate_model.specs.declared.key.Key.{Key}
use Rattle.gate_model.specs.picture.KeyGrid.{KeyGrid}
use Rattle.gate_model.specs.picture.Pictures.{key_at, blank_key}
use Rattle.gate_model.specs.picture.Buffers.{Buffers}
use Rattle.glyph_cache.specs.Cache.{CacheState, IsCache}
use Rattle.frame_draw.specs.Along.{is_on}
use Rattle.join_snapshot.specs.Snapshot.{AddsCells, AddsPlace, all_buffers, buffer_made, buffers_below}

-- the first buffers were made; the cache is one, as each look at it says
pub record IsMaking (list : List Instr) (cache : CacheState) (number : ℕ) (longer : List Instr) : Type 0 where
  pub added : longer ≡ list ++ buffers_below cache.keys number
  pub valid : 0 < number → IsCache cache

pub making_none : (list : List Instr) (cache : CacheState) → IsMaking list cache 0 list
making_none list cache = record { added = sym (append-nil list); valid = λ lt. absurd (omega (arith, lt)) }

next_is : (keys : List Key) (n : ℕ) → buffers_below keys (n + 1) ≡ buffers_below keys n ++ buffer_made n (slice_get keys n)
next_is keys n =
    let same : n + 1 ≡ suc n = omega arith in
    ap (buffers_below keys) same

pub making_more : (list before longer : List Instr) (cache : CacheState) (n : ℕ) (o : Option Key) → IsMaking list cache n before → IsCache cache → slice_get cache.keys n ≡ o
    → longer ≡ before ++ buffer_made n o → IsMaking list cache (n + 1) longer
making_more list before longer cache n o g valid got added = record {
  added =
      added
      ∙ (ap (λ (xs : List Instr). xs ++ buffer_made n o) g.added
      ∙ (append_assoc list (buffers_below cache.keys n) (buffer_made n o)
      ∙ ap (λ (xs : List Instr). list ++ xs) (ap (λ (p : Option Key). buffers_below cache.keys n ++ buffer_made n p) (sym got) ∙ sym (next_is cache.keys n))));
  valid = λ lt. valid;
}

pub making_ends : (list longer : List Instr) (cache : CacheState) (n : ℕ) → n ≡ 1024 → IsMaking list cache n longer → longer ≡ list ++ all_buffers cache.keys
unfolding all_buffers
making_ends list longer cache n e g = g.added ∙ ap (λ (i : ℕ). list ++ buffers_below cache.keys i) e

-- ---- one more place
pub cell_added : (keys : Buffers) (now : KeyGrid) (wanted : List Bool) (list before longer : List Instr) (n : ℕ) (k : Key) (x y : ℕ) (on : Bool) → AddsCells keys now wanted list n before → AddsPlace keys k x y on before longer
    → k ≡ key_at now.keys n → x ≡ n % now.cols → y ≡ n / now.cols → on ≡ is_on wanted n → AddsCells keys now wanted list (n + 1) longer
cell_added keys now wanted list before longer n k x y on g c e f h o =
    let same : suc n ≡ n + 1 = omega arith in
    let here : AddsPlace keys (key_at now.keys n) (n % now.cols) (n / now.cols) (is_on wanted n) before longer =
    subst (λ (b : Bool). AddsPlace keys (key_at now.keys n) (n % now.cols) (n / now.cols) b before longer) o
    (subst (λ (i : ℕ). AddsPlace keys (key_at now.keys n) (n % now.cols) i on before longer) h
    (subst (λ (i : ℕ). AddsPlace keys (key_at now.keys n) i y on before longer) f
    (subst (λ (q : Key). AddsPlace keys q x y on before longer) e c))) in
    subst (λ (i : ℕ). AddsCells keys now wanted list i longer) same (before, g, here)

any_default : (ks : List Key) (n : ℕ) (d e : Key) → n < length ks → slice_index_or ks n d ≡ slice_index_or ks n e
any_default [] n d e lt = absurd (omega (arith, lt))
any_default (k ∷ ks) zero d e lt = refl
any_default (k ∷ ks) (suc n) d e lt = any_default ks n d e (omega (arith, lt))

pub read_is : (slice keys : List Key) (place : ℕ) (d : Key) → slice ≡ keys → place < length slice → slice_index_or slice place d ≡ key_at keys place
read_is slice keys place d e lt = any_default slice place d blank_key lt ∙ ap (λ (ks : List Key). key_at ks place) e

pub flag_is : (flags : List Bool) (n : ℕ) (d : Bool) → n < length flags → slice_index_or flags n d ≡ is_on flags n
flag_is [] n d lt = absurd (omega (arith, lt))
flag_is (b ∷ flags) zero d lt = refl
flag_is (b ∷ flags) (suc n) d lt = flag_is flags n d (omega (arith, lt))
