-- What may follow the first byte of a character.
use Rattle.std.proofs.Common.{◌≡◌, ℕ, ◌+◌, ◌*◌, ◌/◌, ◌<◌, ◌≤◌, ◌⊎◌, inl, inr, true, false, cond, nat_lt, List, [], ◌∷◌, ◌++◌, ap, sym, ◌∙◌, arith}
use Rattle.std.proofs.lemmas.Bool.{cases_lt}
use Rattle.std.proofs.lemmas.Bool.Decides.{nat_tests}
use Rattle.std.specs.Char.{IsScalar}
use lib.Utf8.{encode, next, scalar_cases}
use Rattle.guac_framing.specs.Begun.{BeginsNone}
use Rattle.gate_model.proofs.Digits.{head_same}

passed : {X : Type 0} (m n : ℕ) (a b : X) → n ≤ m → cond (nat_lt m n) a b ≡ b
passed m n a b le = let e : nat_lt m n ≡ false = grind (arith, nat_tests) in ap (λ t. cond t a b) e

taken : {X : Type 0} (m n : ℕ) (a b : X) → m < n → cond (nat_lt m n) a b ≡ a
taken m n a b lt = let e : nat_lt m n ≡ true = grind (arith, nat_tests) in ap (λ t. cond t a b) e

pub one : (c : ℕ) → c < 128 → encode c ≡ c ∷ []
unfolding encode
one c h = taken c 128 _ _ h

pub two : (c : ℕ) → 128 ≤ c → c < 2048 → encode c ≡ (192 + c / 64) ∷ next c ∷ []
unfolding encode
two c l h = passed c 128 _ _ l ∙ taken c 2048 _ _ h

pub three : (c : ℕ) → 2048 ≤ c → c < 65536 → encode c ≡ (224 + c / 4096) ∷ next (c / 64) ∷ next c ∷ []
unfolding encode
three c l h = passed c 128 _ _ (omega arith) ∙ passed c 2048 _ _ l ∙ taken c 65536 _ _ h

pub four : (c : ℕ) → 65536 ≤ c → encode c ≡ (240 + c / 262144) ∷ next (c / 4096) ∷ next (c / 64) ∷ next c ∷ []
unfolding encode
four c l = passed c 128 _ _ (omega arith) ∙ passed c 2048 _ _ (omega arith) ∙ passed c 65536 _ _ l

-- a byte that continues a character
abbrev pub IsNext : ℕ → Type 0
IsNext b = (128 ≤ b) × (b ≤ 191)

-- the bytes of a character, in each of the four ranges
pub data Shape (c : ℕ) : Type 0 where
  of1 : c < 128 → encode c ≡ c ∷ [] → Shape c
  of2 : (a b : ℕ) → 194 ≤ a → a < 224 → IsNext b → c + 12416 ≡ a * 64 + b → encode c ≡ a ∷ b ∷ [] → Shape c
  of3 : (a b d : ℕ) → 224 ≤ a → a < 240 → IsNext b → IsNext d → (a ≡ 224 → 160 ≤ b) → (a ≡ 237 → b ≤ 159) → c + 925824 ≡ a * 4096 + b * 64 + d → encode c ≡ a ∷ b ∷ d ∷ [] → Shape c
  of4 : (a b d e : ℕ) → 240 ≤ a → a ≤ 244 → IsNext b → IsNext d → IsNext e → (a ≡ 240 → 144 ≤ b) → (a ≡ 244 → b ≤ 143) → c + 63447168 ≡ a * 262144 + b * 4096 + d * 64 + e → encode c ≡ a ∷ b ∷ d ∷ e ∷ [] → Shape c

nexts : (x : ℕ) → IsNext (next x)
nexts x = (omega arith, omega arith)

pub shape : (c : ℕ) → IsScalar c → Shape c
shape c s = by (cases_lt c 128) (cases_lt c 2048) (cases_lt c 65536) (scalar_cases c s)
  where
    by : (c < 128) ⊎ (128 ≤ c) → (c < 2048) ⊎ (2048 ≤ c) → (c < 65536) ⊎ (65536 ≤ c) → (c < 55296) ⊎ ((57344 ≤ c) × (c < 1114112)) → Shape c
    by (inl h) _ _ _ = of1 h (one c h)
    by (inr l) (inl h) _ _ = of2 (192 + c / 64) (next c) (omega arith) (omega arith) (nexts c) (omega arith) (two c l h)
    by (inr _) (inr l) (inl h) (inl s) = of3 (224 + c / 4096) (next (c / 64)) (next c) (omega arith) (omega arith) (nexts (c / 64)) (nexts c) (λ e. omega arith) (λ e. omega arith) (omega arith) (three c l h)
    by (inr _) (inr l) (inl h) (inr s) = of3 (224 + c / 4096) (next (c / 64)) (next c) (omega arith) (omega arith) (nexts (c / 64)) (nexts c) (λ e. omega arith) (λ e. omega arith) (omega arith) (three c l h)
    by (inr _) (inr _) (inr l) (inl s) = absurd (omega arith)
    by (inr _) (inr _) (inr l) (inr s) = of4 (240 + c / 262144) (next (c / 4096)) (next (c / 64)) (next c) (omega arith) (omega (arith, s.1)) (nexts (c / 4096)) (nexts (c / 64)) (nexts c) (λ e. omega arith) (λ e. omega (arith, s.1)) (omega arith) (four c l)

pub lead_none : (b : ℕ) → (128 ≤ b) → (b < 194) ⊎ (244 < b) → BeginsNone b
lead_none b high out c x z s e = by (shape c s) out
  where
    first : (a : ℕ) (r : List ℕ) → encode c ≡ a ∷ r → a ≡ b
    first a r p = head_same _ _ _ _ (sym (ap (λ l. l ++ x) p) ∙ e)

    by : Shape c → (b < 194) ⊎ (244 < b) → ⊥
    by (of1 l p) o = omega (arith, first _ _ p)
    by (of2 a b2 l u f q p) (inl o) = omega (arith, first _ _ p)
    by (of2 a b2 l u f q p) (inr o) = omega (arith, first _ _ p)
    by (of3 a b2 d l u f g m n q p) (inl o) = omega (arith, first _ _ p)
    by (of3 a b2 d l u f g m n q p) (inr o) = omega (arith, first _ _ p)
    by (of4 a b2 d y l u f g h m n q p) (inl o) = omega (arith, first _ _ p)
    by (of4 a b2 d y l u f g h m n q p) (inr o) = omega (arith, first _ _ p)
