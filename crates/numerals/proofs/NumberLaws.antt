-- The number that decimal digits make, digit by digit.
use Rattle.std.proofs.Common.{◌≡◌, ℕ, zero, suc, ◌+◌, ◌-◌, ◌*◌, ◌^◌, ◌<◌, ◌≤◌, List, [], ◌∷◌, length, take, get_or, true, ap, ◌∙◌, arith, add-one}
use Rattle.std.specs.Prelude.{nat_le}
use Rattle.std.specs.Int.{is_in_range}
use Rattle.std.specs.Char.{is_ascii_digit}
use Rattle.std.specs.List.{list_all}
use Rattle.std.proofs.Math.Nat.{pow-suc, pow-le-pow_right}
use Rattle.std.proofs.lemmas.List.{take_more}
use Rattle.std.proofs.lemmas.Bool.{leb-true, and_parts}
use Rattle.gate_model.specs.text.Spelling.{number_of}
use Rattle.gate_model.specs.text.Numerals.{is_number}
use Rattle.gate_model.proofs.Digits.{number_after-append}

pub number_of-take : (ds : List ℕ) (i : ℕ) → i < length ds → number_of (take (i + 1) ds) ≡ 10 * number_of (take i ds) + (get_or ds i 0 - 48)
number_of-take ds i lt = ap number_of (take_more ds i 0 lt) ∙ number_after-append 0 (take i ds) (get_or ds i 0 ∷ [])

digit_at : (ds : List ℕ) (i : ℕ) → list_all is_ascii_digit ds ≡ true → i < length ds → (48 ≤ get_or ds i 0) × (get_or ds i 0 ≤ 57)
digit_at [] i all lt = absurd (omega (arith, lt))
digit_at (d ∷ ds) zero all lt =
    let p = and_parts (is_ascii_digit d) (list_all is_ascii_digit ds) all in
    let q = and_parts (nat_le 48 d) (nat_le d 57) p.0 in
    (leb-true 48 d q.0, leb-true d 57 q.1)
digit_at (d ∷ ds) (suc i) all lt = digit_at ds i (and_parts (is_ascii_digit d) (list_all is_ascii_digit ds) all).1 (omega (arith, lt))

pub power_more : (i : ℕ) → 10 ^ (i + 1) ≡ 10 ^ i * 10
power_more i = rw add-one (pow-suc 10 i)

pub power_small : (i : ℕ) → i ≤ 20 → 10 ^ i ≤ 10 ^ 20
power_small i le = pow-le-pow_right (omega arith) le

-- what 1 to 20 digits are
pub record HasDigits (value : List ℕ) : Type 0 where
  pub short : length value ≤ 20
  pub digits : (i : ℕ) → i < length value → (48 ≤ get_or value i 0) × (get_or value i 0 ≤ 57)

pub digits_of : (value : List ℕ) → is_number value ≡ true → HasDigits value
digits_of value e =
    let all = and_parts (is_in_range 1 20 (length value)) (list_all is_ascii_digit value) e in
    let sizes = and_parts (nat_le 1 (length value)) (nat_le (length value) 20) all.0 in
    record { short = leb-true (length value) 20 sizes.1; digits = λ i lt. digit_at value i all.1 lt }
