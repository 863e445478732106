-- Which keys are new among others, a key at a time.
use Rattle.std.proofs.Common.{◌≡◌, ℕ, zero, suc, ◌+◌, ◌<◌, List, [], ◌∷◌, ◌++◌, length, take, Bool, true, false, not, ◌&&◌, ◌||◌, ◌==◌, if◌then◌else◌, refl, sym, ap, ◌∙◌, append_assoc, append-nil, arith}
use Rattle.std.specs.Prelude.{Some, slice_get, slice_index_or}
use Rattle.std.proofs.lemmas.Bool.Decides.{nat_tests}
use Rattle.std.proofs.lemmas.List.{take_more}
use Rattle.gate_model.specs.declared.key.Key.{Key}
use Rattle.gate_model.specs.picture.Buffers.{Buffers, is_held, is_same_key, new_keys}

-- ---- keys that are the same
same_number : (a : ℕ) → (a == a) ≡ true
same_number a = grind (arith, nat_tests)

same_flag : (a : Bool) → (a && a || not a && not a) ≡ true
same_flag true = refl
same_flag false = refl

all_four : (a b c d : Bool) → a ≡ true → b ≡ true → c ≡ true → d ≡ true → (a && b && c && d) ≡ true
all_four a b c d e f g h = grind arith

pub same_itself : (k : Key) → is_same_key k k ≡ true
same_itself k = all_four (k.face == k.face) (k.ink == k.ink) (k.paper == k.paper) _ (same_number k.face) (same_number k.ink) (same_number k.paper) (same_flag k.under)

from_four : (a b c d : Bool) → (a && b && c && d) ≡ true → (a ≡ true) × (b ≡ true) × (c ≡ true) × (d ≡ true)
from_four true true true d e = (refl, refl, refl, e)
from_four false b c d e = absurd (cc)
from_four true false c d e = absurd (cc)
from_four true true false d e = absurd (cc)

from_number : (a b : ℕ) → (a == b) ≡ true → a ≡ b
from_number a b e = grind (arith, nat_tests)

from_flag : (a b : Bool) → (a && b || not a && not b) ≡ true → a ≡ b
from_flag true true e = refl
from_flag false false e = refl
from_flag true false e = absurd (cc)
from_flag false true e = absurd (cc)

made : ℕ → Bool → ℕ → ℕ → Key
made face under ink paper = record { face = face; under = under; ink = ink; paper = paper }

pub same_is : (a b : Key) → is_same_key a b ≡ true → a ≡ b
unfolding made
same_is a b e =
    let p = from_four (a.face == b.face) (a.ink == b.ink) (a.paper == b.paper) (a.under && b.under || not a.under && not b.under) e in
    let face : a.face ≡ b.face = from_number a.face b.face p.0 in
    let ink : a.ink ≡ b.ink = from_number a.ink b.ink p.1 in
    let paper : a.paper ≡ b.paper = from_number a.paper b.paper p.2 in
    let under : a.under ≡ b.under = from_flag a.under b.under p.3 in
    ap (λ (n : ℕ). made n a.under a.ink a.paper) face
    ∙ (ap (λ (t : Bool). made b.face t a.ink a.paper) under
    ∙ (ap (λ (n : ℕ). made b.face b.under n a.paper) ink
    ∙ ap (λ (n : ℕ). made b.face b.under b.ink n) paper))

-- ---- keys that have a buffer
pub held_there : (keys : Buffers) (n : ℕ) (key : Key) → slice_get keys n ≡ Some key → is_held keys key ≡ true
held_there [] n key e = absurd (cc)
held_there (k ∷ keys) zero key e =
    let same : k ≡ key = cc in
    ap (λ (q : Key). is_same_key key q || is_held keys key) same ∙ ap (λ (b : Bool). b || is_held keys key) (same_itself key)
held_there (k ∷ keys) (suc n) key e = ap (λ (b : Bool). is_same_key key k || b) (held_there keys n key e) ∙ or_true (is_same_key key k)
  where
    or_true : (b : Bool) → (b || true) ≡ true
    or_true true = refl
    or_true false = refl

turned : (a b c : Bool) → (a || (b || c)) ≡ (b || (a || c))
turned true true c = refl
turned true false c = refl
turned false true c = refl
turned false false c = refl

-- the order of the keys doesn't matter
moved : (held more : Buffers) (x key : Key) → is_held (x ∷ (held ++ more)) key ≡ is_held (held ++ x ∷ more) key
moved [] more x key = refl
moved (k ∷ held) more x key = turned (is_same_key key x) (is_same_key key k) (is_held (held ++ more) key) ∙ ap (λ (b : Bool). is_same_key key k || b) (moved held more x key)

-- one more key
unfoldable pub if_new : Bool → Key → List Key
if_new true key = []
if_new false key = key ∷ []

pub new_more : (held keys : List Key) (key : Key) → new_keys held (keys ++ key ∷ []) ≡ new_keys held keys ++ if_new (is_held (held ++ new_keys held keys) key) key
unfolding if_new
new_more held [] key = last (is_held held key) ∙ ap (λ (ks : List Key). if_new (is_held ks key) key) (sym (append-nil held))
  where
    last : (b : Bool) → (if b then [] else key ∷ []) ≡ if_new b key
    last true = refl
    last false = refl
new_more held (x ∷ keys) key = cases (is_held held x) (new_more held keys key) (new_more (x ∷ held) keys key)
  where
    cases : (b : Bool) → new_keys held (keys ++ key ∷ []) ≡ new_keys held keys ++ if_new (is_held (held ++ new_keys held keys) key) key
        → new_keys (x ∷ held) (keys ++ key ∷ []) ≡ new_keys (x ∷ held) keys ++ if_new (is_held ((x ∷ held) ++ new_keys (x ∷ held) keys) key) key
        → (if b then new_keys held (keys ++ key ∷ []) else x ∷ new_keys (x ∷ held) (keys ++ key ∷ []))
        ≡ (if b then new_keys held keys else x ∷ new_keys (x ∷ held) keys) ++ if_new (is_held (held ++ (if b then new_keys held keys else x ∷ new_keys (x ∷ held) keys)) key) key
    cases true e f = e
    cases false e f = ap (λ (ks : List Key). x ∷ ks) f ∙ ap (λ (b : Bool). x ∷ (new_keys (x ∷ held) keys ++ if_new b key)) (moved held (new_keys (x ∷ held) keys) x key)

-- where none is new, each is held
pub none_new : (held keys : List Key) (i : ℕ) (d : Key) → new_keys held keys ≡ [] → i < length keys → is_held held (slice_index_or keys i d) ≡ true
none_new held [] i d e lt = absurd (omega arith)
none_new held (x ∷ keys) i d e lt = cases (is_held held x) refl e i lt (λ n g low. none_new held keys n d g low)
  where
    cases : (b : Bool) → is_held held x ≡ b → (if b then new_keys held keys else x ∷ new_keys (x ∷ held) keys) ≡ [] → (i : ℕ) → i < length (x ∷ keys)
        → ((n : ℕ) → new_keys held keys ≡ [] → n < length keys → is_held held (slice_index_or keys n d) ≡ true) → is_held held (slice_index_or (x ∷ keys) i d) ≡ true
    cases false f g i low more = absurd (cc)
    cases true f g zero low more = f
    cases true f g (suc i) low more = more i g (omega (arith, low))

-- the keys that are held after one more place
pub held_more : (before keys : List Key) (seen : ℕ) (d : Key) → seen < length keys
    → before ++ new_keys before (take (seen + 1) keys) ≡ (before ++ new_keys before (take seen keys)) ++ if_new (is_held (before ++ new_keys before (take seen keys)) (slice_index_or keys seen d)) (slice_index_or keys seen d)
held_more before keys seen d lt =
    ap (λ (ks : List Key). before ++ new_keys before ks) (take_more keys seen d lt)
    ∙ (ap (λ (ks : List Key). before ++ ks) (new_more before (take seen keys) (slice_index_or keys seen d))
    ∙ sym (append_assoc before (new_keys before (take seen keys)) _))

pub new_one_more : (before keys : List Key) (seen : ℕ) (d : Key) → seen < length keys
    → new_keys before (take (seen + 1) keys) ≡ new_keys before (take seen keys) ++ if_new (is_held (before ++ new_keys before (take seen keys)) (slice_index_or keys seen d)) (slice_index_or keys seen d)
new_one_more before keys seen d lt =
    ap (λ (ks : List Key). new_keys before ks) (take_more keys seen d lt) ∙ new_more before (take seen keys) (slice_index_or keys seen d)
