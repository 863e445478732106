-- How many places are wanted, before and after some are struck.
use Rattle.std.proofs.Common.{◌≡◌, ℕ, zero, suc, ◌+◌, ◌<◌, ◌≤◌, ◌⊎◌, Bool, true, false, List, [], ◌∷◌, length, if◌then◌else◌, refl, sym, ap, ◌∙◌, arith, inl, inr}
use Rattle.std.specs.Prelude.{slice_index_or, slice_set}
use Rattle.std.proofs.lemmas.Bool.{cases_lt}
use Rattle.frame_draw.specs.Along.{count_below, is_on}
use Rattle.frame_draw.specs.Leads.{AreStruck}

abbrev as_count : Bool → ℕ
as_count b = if b then 1 else 0

-- the same places, the same count
pub count_same : (f g : ℕ → Bool) (n : ℕ) → ((p : ℕ) → p < n → f p ≡ g p) → count_below f n ≡ count_below g n
count_same f g zero same = refl
count_same f g (suc n) same =
    let here : as_count (f n) ≡ as_count (g n) = ap as_count (same n (omega arith)) in
    omega (arith, here, count_same f g n (λ p lt. same p (omega (arith, lt))))

module _ (flags later : List Bool) (from to : ℕ) (order : from ≤ to) (s : AreStruck flags later from to) where
  abbrev f : ℕ → Bool
  f = is_on flags

  abbrev g : ℕ → Bool
  g = is_on later

  below : (n : ℕ) → n ≤ from → count_below g n ≡ count_below f n
  below n le = count_same g f n (λ p lt. s.before p (omega (arith, lt, le)))

  within : (n : ℕ) → from ≤ n → n ≤ to → count_below g n ≡ count_below f from
  within zero low high = let none : from ≡ 0 = omega (arith, low) in below zero (omega arith) ∙ ap (count_below f) (sym none)
  within (suc n) low high = elim (cases_lt n from) as (λ _. count_below g (suc n) ≡ count_below f from) [
    | inl lt ↦ let same : suc n ≡ from = omega (arith, low, lt) in below (suc n) (omega (arith, same)) ∙ ap (count_below f) same
    | inr le ↦
        let off : as_count (g n) ≡ 0 = ap as_count (s.inside n (omega (arith, le)) (omega (arith, high))) in
        let more : count_below g n ≡ count_below f from = within n (omega (arith, le)) (omega (arith, high)) in
        omega (arith, off, more)
  ]

  pub struck : (n : ℕ) → to ≤ n → count_below g n + count_below f to ≡ count_below f n + count_below f from
  struck zero high = let none : to ≡ 0 = omega (arith, high) in let none_too : from ≡ 0 = omega (arith, high, order) in
      let a : count_below f to ≡ 0 = ap (count_below f) none in let b : count_below f from ≡ 0 = ap (count_below f) none_too in omega (arith, a, b)
  struck (suc n) high = elim (cases_lt n to) as (λ _. count_below g (suc n) + count_below f to ≡ count_below f (suc n) + count_below f from) [
    | inl lt ↦
        let same : to ≡ suc n = omega (arith, high, lt) in
        let a : count_below g to ≡ count_below f from = within to order (omega arith) in
        let b : count_below f to ≡ count_below f (suc n) = ap (count_below f) same in
        let c : count_below g to ≡ count_below g (suc n) = ap (count_below g) same in
        omega (arith, a, b, c)
    | inr le ↦
        let here : as_count (g n) ≡ as_count (f n) = ap as_count (s.after n (omega (arith, le))) in
        omega (arith, here, struck n (omega (arith, le)))
  ]

-- what isn't wanted before isn't after
pub struck_off : (flags later : List Bool) (from to : ℕ) → AreStruck flags later from to → (p : ℕ) → is_on flags p ≡ false → is_on later p ≡ false
struck_off flags later from to s p e = elim (cases_lt p from) as (λ _. is_on later p ≡ false) [
  | inl low ↦ s.before p low ∙ e
  | inr le ↦ elim (cases_lt p to) as (λ _. is_on later p ≡ false) [
    | inl high ↦ s.inside p (omega (arith, le)) high
    | inr past ↦ s.after p (omega (arith, past)) ∙ e
  ]
]

-- ---- one place is struck
pub get_same : (xs : List Bool) (n : ℕ) (x : Bool) → n < length xs → slice_index_or (slice_set xs n x) n true ≡ x
get_same [] n x lt = absurd (omega (arith, lt))
get_same (y ∷ xs) zero x lt = refl
get_same (y ∷ xs) (suc n) x lt = get_same xs n x (omega (arith, lt))

pub get_else : (xs : List Bool) (n j : ℕ) (x : Bool) → (j < n) ⊎ (n < j) → slice_index_or (slice_set xs n x) j true ≡ slice_index_or xs j true
get_else [] n j x ne = refl
get_else (y ∷ xs) zero zero x (inl lt) = absurd (omega (arith, lt))
get_else (y ∷ xs) zero zero x (inr lt) = absurd (omega (arith, lt))
get_else (y ∷ xs) zero (suc j) x ne = refl
get_else (y ∷ xs) (suc n) zero x ne = refl
get_else (y ∷ xs) (suc n) (suc j) x (inl lt) = get_else xs n j x (inl (omega (arith, lt)))
get_else (y ∷ xs) (suc n) (suc j) x (inr lt) = get_else xs n j x (inr (omega (arith, lt)))

pub set_length : (xs : List Bool) (n : ℕ) (x : Bool) → length (slice_set xs n x) ≡ length xs
set_length [] n x = refl
set_length (y ∷ xs) zero x = refl
set_length (y ∷ xs) (suc n) x = ap suc (set_length xs n x)

pub struck_none : (flags : List Bool) (from : ℕ) → AreStruck flags flags from from
struck_none flags from = record {
  alike = refl;
  before = λ p lt. refl;
  inside = λ p low high. absurd (omega (arith, low, high));
  after = λ p le. refl;
}

pub struck_more : (flags between later : List Bool) (from to : ℕ) → from ≤ to → to < length between → later ≡ slice_set between to false → AreStruck flags between from to → AreStruck flags later from (to + 1)
struck_more flags between later from to order lt e s = record {
  alike = ap length e ∙ (set_length between to false ∙ s.alike);
  before = λ p low. read p ∙ (get_else between to p false (inl (omega (arith, low, order))) ∙ s.before p low);
  inside = λ p low high. elim (cases_lt p to) as (λ _. is_on later p ≡ false) [
    | inl below ↦ read p ∙ (get_else between to p false (inl below) ∙ s.inside p low below)
    | inr above ↦ let same : p ≡ to = omega (arith, above, high) in ap (is_on later) same ∙ (read to ∙ get_same between to false lt)
  ];
  after = λ p le. read p ∙ (get_else between to p false (inr (omega (arith, le))) ∙ s.after p (omega (arith, le)));
}
  where
    read : (p : ℕ) → is_on later p ≡ slice_index_or (slice_set between to false) p true
    read p = ap (λ (xs : List Bool). slice_index_or xs p true) e
