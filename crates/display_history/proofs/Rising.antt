-- Frames whose stamps rise, and which of them are above a stamp.
use Rattle.std.proofs.Common.{◌≡◌, ℕ, ◌<◌, ◌≤◌, List, [], ◌∷◌, ◌++◌, length, Bool, true, false, refl, ap, subst, arith, length-append}
use Rattle.std.specs.Prelude.{nat_lt, if◌then◌else◌}
use Rattle.std.proofs.lemmas.Bool.Decides.{nat_tests}
use Rattle.display_history.specs.Keeping.{after_stamp, last_stamp, AreRising}

pub rising-more : (s : ℕ) (fs : List (ℕ × List ℕ)) (t : ℕ) (text : List ℕ) → AreRising s fs → last_stamp s fs < t → AreRising s (fs ++ (t, text) ∷ [])
rising-more s [] t text r lt = (lt, tt)
rising-more s (f ∷ fs) t text r lt = (r.0, rising-more f.0 fs t text r.1 lt)

pub rising-front : (s : ℕ) (xs ys : List (ℕ × List ℕ)) → AreRising s (xs ++ ys) → AreRising s xs
rising-front s [] ys r = tt
rising-front s (f ∷ xs) ys r = (r.0, rising-front f.0 xs ys r.1)

pub rising-back : (s : ℕ) (xs ys : List (ℕ × List ℕ)) → AreRising s (xs ++ ys) → AreRising (last_stamp s xs) ys
rising-back s [] ys r = r
rising-back s (f ∷ xs) ys r = rising-back f.0 xs ys r.1

pub rising-from : (s t : ℕ) (fs : List (ℕ × List ℕ)) → t ≤ s → AreRising s fs → AreRising t fs
rising-from s t [] le r = tt
rising-from s t (f ∷ fs) le r = (omega (arith, le, r.0), r.1)

pub last_stamp-append : (s : ℕ) (xs ys : List (ℕ × List ℕ)) → last_stamp s (xs ++ ys) ≡ last_stamp (last_stamp s xs) ys
last_stamp-append s [] ys = refl
last_stamp-append s (f ∷ xs) ys = last_stamp-append f.0 xs ys

low_from : (s : ℕ) (fs : List (ℕ × List ℕ)) → AreRising s fs → s ≤ last_stamp s fs
low_from s [] r = omega arith
low_from s (f ∷ fs) r = omega (arith, r.0, low_from f.0 fs r.1)

-- at the last stamp or above it there is no frame more
pub none_above : (s t : ℕ) (fs : List (ℕ × List ℕ)) → AreRising s fs → last_stamp s fs ≤ t → after_stamp t fs ≡ []
none_above s t [] r le = refl
none_above s t (f ∷ fs) r le =
    let low : f.0 ≤ t = omega (arith, low_from f.0 fs r.1, le) in
    rw (not_below f.0 low) (none_above f.0 t fs r.1 le)
  where
    not_below : (u : ℕ) → u ≤ t → nat_lt t u ≡ false
    not_below u low = grind (arith, nat_tests)

-- below it there is one
pub some_above : (s t : ℕ) (fs : List (ℕ × List ℕ)) → s ≤ t → t < last_stamp s fs → after_stamp t fs ≡ [] → ⊥
some_above s t [] low lt none = omega arith
some_above s t (f ∷ fs) low lt none = cases (nat_lt t f.0) refl (λ le rest. some_above f.0 t fs le lt rest)
  where
    cases : (b : Bool) → nat_lt t f.0 ≡ b → (f.0 ≤ t → after_stamp t fs ≡ [] → ⊥) → ⊥
    cases true e more = let there : f ∷ after_stamp t fs ≡ [] = subst (λ (b : Bool). (if b then f ∷ after_stamp t fs else after_stamp t fs) ≡ []) e none in cc
    cases false e more = more (grind (arith, nat_tests, e)) (subst (λ (b : Bool). (if b then f ∷ after_stamp t fs else after_stamp t fs) ≡ []) e none)

pub nothing_before : {A : Type 0} (xs ys : List A) → xs ++ ys ≡ ys → xs ≡ []
nothing_before [] ys e = refl
nothing_before (x ∷ xs) ys e = absurd (omega (arith, ap length e, length-append (x ∷ xs) ys))
