-- The places of the layers of a canvas.
use Rattle.std.proofs.Common.{◌≡◌, ◌≢◌, ℕ, zero, suc, ◌+◌, ◌<◌, ◌≤◌, ◌==◌, ℤ, pos, negsuc, List, get_or, false, refl, sym, ap, ◌∙◌, arith}
use Rattle.std.specs.Prelude.{unsigned_abs}
use Rattle.std.proofs.Common.{w32, to_z, of_z}
use mir.Val.{SFits}
use Rattle.std.proofs.Math.Facts.{to_z-of_z}
use Rattle.std.proofs.lemmas.Int.{ints}
use Rattle.std.proofs.lemmas.Bool.Decides.{nat_tests}
use Rattle.gate_model.specs.picture.Shape.{IsLayer}
use Rattle.canvas.specs.Kept.{KeptLayer, kept_empty}
use Rattle.canvas.specs.Standing.{KeepsOthers, kept_at}
use Rattle.canvas.proofs.Rows.{else_case}

not_visible : (n : ℕ) → IsLayer (pos (suc n)) → ⊥
not_visible n named = omega (arith, ints, named.1)

other_zero : (k : ℤ) (i : ℕ) → IsLayer k → i ≡ unsigned_abs k → pos 0 ≢ k → 0 ≢ i
other_zero (pos zero) i named e other same = other refl
other_zero (pos (suc n)) i named e other same = not_visible n named
other_zero (negsuc n) i named e other same = omega arith

other_below : (k : ℤ) (i m : ℕ) → IsLayer k → i ≡ unsigned_abs k → negsuc m ≢ k → m + 1 ≢ i
other_below (pos zero) i m named e other same = omega arith
other_below (pos (suc n)) i m named e other same = not_visible n named
other_below (negsuc n) i m named e other same = other (let f : m ≡ n = omega arith in ap negsuc f)

not_zero : (n : ℕ) → (suc n == 0) ≡ false
not_zero n = grind (arith, nat_tests)

pub none_above : (layers : List KeptLayer) (n : ℕ) → kept_at layers (pos (suc n)) ≡ kept_empty
none_above layers n = else_case (suc n == 0) (get_or layers 0 kept_empty) kept_empty (not_zero n)

-- the layers but for one stay where the other places stay
pub others_stay : (old new : List KeptLayer) (k : ℤ) (i : ℕ) → IsLayer k → i ≡ unsigned_abs k → ((j : ℕ) → j ≢ i → get_or new j kept_empty ≡ get_or old j kept_empty) → KeepsOthers old k new
others_stay old new k i named e stay (pos zero) other = stay 0 (other_zero k i named e other)
others_stay old new k i named e stay (pos (suc n)) other = none_above new n ∙ sym (none_above old n)
others_stay old new k i named e stay (negsuc n) other = stay (n + 1) (other_below k i n named e other)

pub kept_there : (layers : List KeptLayer) (k : ℤ) (i : ℕ) → IsLayer k → i ≡ unsigned_abs k → get_or layers i kept_empty ≡ kept_at layers k
kept_there layers (pos zero) i named e = ap (λ (n : ℕ). get_or layers n kept_empty) e
kept_there layers (pos (suc n)) i named e = absurd (not_visible n named)
kept_there layers (negsuc n) i named e = let f : i ≡ n + 1 = omega arith in ap (λ (n : ℕ). get_or layers n kept_empty) f

small : (n : ℕ) → n ≤ 1023 → n < 2147483648
small n h = omega arith

layer_fits : (k : ℤ) → IsLayer k → SFits w32 k
layer_fits (pos zero) named = record { sfits = omega arith }
layer_fits (pos (suc n)) named = absurd (not_visible n named)
layer_fits (negsuc n) named = record { sfits = small n (omega (arith, ints, named.0)) }

-- a layer's number, as the code holds it
abbrev pub held : ℤ → ℤ
held k = to_z w32 (of_z w32 k)

pub layer_back : (k : ℤ) → IsLayer k → held k ≡ k
layer_back k named = to_z-of_z (layer_fits k named)
