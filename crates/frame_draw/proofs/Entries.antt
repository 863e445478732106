-- Entries of lists that gain one, or in which one is replaced.
use Rattle.std.proofs.Common.{◌≡◌, ◌≢◌, ℕ, zero, suc, ◌<◌, List, [], ◌∷◌, ◌++◌, length, refl, ap, arith}
use Rattle.std.specs.Prelude.{Some, slice_get, slice_set}

pub get_added : {X : Type 0} (xs : List X) (x : X) → slice_get (xs ++ x ∷ []) (length xs) ≡ Some x
get_added [] x = refl
get_added (y ∷ xs) x = get_added xs x

pub get_before : {X : Type 0} (xs : List X) (x : X) (j : ℕ) → j ≢ length xs → slice_get (xs ++ x ∷ []) j ≡ slice_get xs j
get_before [] x zero ne = absurd (ne refl)
get_before [] x (suc j) ne = refl
get_before (y ∷ xs) x zero ne = refl
get_before (y ∷ xs) x (suc j) ne = get_before xs x j (λ e. ne (ap suc e))

pub get_set : {X : Type 0} (xs : List X) (n : ℕ) (x : X) → n < length xs → slice_get (slice_set xs n x) n ≡ Some x
get_set [] n x lt = absurd (omega arith)
get_set (y ∷ xs) zero x lt = refl
get_set (y ∷ xs) (suc n) x lt = get_set xs n x (omega (arith, lt))

pub get_other : {X : Type 0} (xs : List X) (n j : ℕ) (x : X) → j ≢ n → slice_get (slice_set xs n x) j ≡ slice_get xs j
get_other [] n j x ne = refl
get_other (y ∷ xs) zero zero x ne = absurd (ne refl)
get_other (y ∷ xs) zero (suc j) x ne = refl
get_other (y ∷ xs) (suc n) zero x ne = refl
get_other (y ∷ xs) (suc n) (suc j) x ne = get_other xs n j x (λ e. ne (ap suc e))
