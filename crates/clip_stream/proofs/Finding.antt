-- A number that is found by a test.
use Rattle.std.proofs.Common.{◌≡◌, ◌≢◌, ℕ, zero, suc, ◌<◌, Bool, true, false, cond, Some, refl, ap, sym, subst, ◌∙◌, arith, inl, inr}
use Rattle.std.proofs.lemmas.Bool.{false≢true, cases_eq}
use Rattle.std.specs.Prelude.{◌⊎◌}
use Rattle.clip_stream.specs.Fronts.{find}

sound_by : (test : ℕ → Bool) (n m : ℕ) (b : Bool) → test n ≡ b → (find test n ≡ Some m → (m < n) × (test m ≡ true)) → cond b (Some n) (find test n) ≡ Some m → (m < suc n) × (test m ≡ true)
sound_by test n m true is before f = let same : n ≡ m = cc in (omega arith, subst (λ k. test k ≡ true) same is)
sound_by test n m false is before f = let r = before f in (omega (arith, r.0), r.1)

-- a number that is found passes the test
pub find-sound : (test : ℕ → Bool) (n m : ℕ) → find test n ≡ Some m → (m < n) × (test m ≡ true)
find-sound test zero m e = cc
find-sound test (suc n) m e = sound_by test n m (test n) refl (find-sound test n m) e

under : (test : ℕ → Bool) (n m : ℕ) → test n ≡ false → test m ≡ true → m < suc n → (n ≡ m) ⊎ (n ≢ m) → m < n
under test n m e is below (inl same) = absurd (false≢true (sym e ∙ subst (λ k. test k ≡ true) (sym same) is))
under test n m e is below (inr other) = omega arith

complete_by : (test : ℕ → Bool) (n m : ℕ) (b : Bool) → test n ≡ b → (test n ≡ true → n ≡ m) → (test n ≡ false → find test n ≡ Some m) → cond b (Some n) (find test n) ≡ Some m
complete_by test n m true e one before = ap Some (one e)
complete_by test n m false e one before = before e

-- where only one number passes, it is found
pub find-complete : (test : ℕ → Bool) (n m : ℕ) → m < n → test m ≡ true → ((k : ℕ) → k < n → test k ≡ true → k ≡ m) → find test n ≡ Some m
find-complete test zero m below is one = absurd (omega arith)
find-complete test (suc n) m below is one =
    complete_by test n m (test n) refl (one n (omega arith))
    (λ e. find-complete test n m (under test n m e is below (cases_eq n m)) is (λ k less t. one k (omega arith) t))
