-- The number of a letter or a sign, found run by run.
use Rattle.std.proofs.Common.{◌≡◌, ℕ, ◌+◌, ◌-◌, ◌<◌, ◌≤◌, List, [], ◌∷◌, length, drop, get_or, true, false, ◌&&◌, refl, ap, ◌∙◌, arith}
use Rattle.std.specs.Prelude.{nat_le, slice_index, Some, None}
use Rattle.std.proofs.lemmas.Bool.Decides.{nat_tests}
use Rattle.std.proofs.lemmas.List.{drop_more, drop_all}
use Rattle.gate_model.specs.picture.Letters.{number_in}

pub stops : (rs : List (List ℕ)) (i c : ℕ) → i < length rs → slice_index (get_or rs i []) 0 ≤ c → c ≤ slice_index (get_or rs i []) 1
    → number_in (drop i rs) c ≡ Some (slice_index (get_or rs i []) 2 + (c - slice_index (get_or rs i []) 0))
stops rs i c lt low high =
    let a : nat_le (slice_index (get_or rs i []) 0) c ≡ true = grind (arith, nat_tests) in
    let b : nat_le c (slice_index (get_or rs i []) 1) ≡ true = grind (arith, nat_tests) in
    ap (λ (run : List (List ℕ)). number_in run c) (drop_more rs i [] lt) ∙ rw (a, b) refl

passed : (run : List ℕ) (rest : List (List ℕ)) (c : ℕ) → (slice_index run 0 ≤ c → c ≤ slice_index run 1 → ⊥) → number_in (run ∷ rest) c ≡ number_in rest c
passed run rest c out_of =
    let out : (nat_le (slice_index run 0) c && nat_le c (slice_index run 1)) ≡ false = grind (arith, nat_tests, out_of) in
    rw out refl

pub goes_on : (rs : List (List ℕ)) (i c : ℕ) → i < length rs → (slice_index (get_or rs i []) 0 ≤ c → c ≤ slice_index (get_or rs i []) 1 → ⊥) → number_in (drop i rs) c ≡ number_in (drop (i + 1) rs) c
goes_on rs i c lt out_of = ap (λ (run : List (List ℕ)). number_in run c) (drop_more rs i [] lt) ∙ passed (get_or rs i []) (drop (i + 1) rs) c out_of

pub none_left : (rs : List (List ℕ)) (i c : ℕ) → length rs ≤ i → number_in (drop i rs) c ≡ None
none_left rs i c le = ap (λ (run : List (List ℕ)). number_in run c) (drop_all i rs le)
