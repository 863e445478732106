-- Digits before a byte that is none, and the number that they spell.
use Rattle.std.proofs.Common.{◌≡◌, ℕ, ◌+◌, ◌-◌, ◌*◌, ◌≤◌, List, [], ◌∷◌, ◌++◌, refl, sym, subst, arith}
use Rattle.gate_model.specs.text.Spelling.{IsDigit, AllDigits, number_after, number_of}

-- the head of a list that isn't empty, and its tail
pub head_same : (a b : ℕ) (xs ys : List ℕ) → a ∷ xs ≡ b ∷ ys → a ≡ b
head_same a b xs ys e = cc

pub tail_same : (a b : ℕ) (xs ys : List ℕ) → a ∷ xs ≡ b ∷ ys → xs ≡ ys
tail_same a b xs ys e = cc

-- digits, and then what doesn't begin with one, read beside digits and anything: the second are a front
-- of the first
pub digits_go_on : (ds es : List ℕ) (b : ℕ) (x z : List ℕ) → AllDigits ds → AllDigits es → (IsDigit b → ⊥) → ds ++ b ∷ x ≡ es ++ z
    → (more : List ℕ) × (ds ≡ es ++ more) × (more ++ b ∷ x ≡ z)
digits_go_on ds [] b x z all others none e = (ds, refl, e)
digits_go_on [] (d ∷ es) b x z all others none e = absurd (none (subst IsDigit (sym (head_same _ _ _ _ e)) others.0))
digits_go_on (c ∷ ds) (d ∷ es) b x z all others none e =
    let more = digits_go_on ds es b x z all.1 others.1 none (tail_same _ _ _ _ e) in
    (more.0, (let h : c ≡ d = head_same _ _ _ _ e in cc), more.2)

pub AllDigits-append : (ds es : List ℕ) → AllDigits ds → AllDigits es → AllDigits (ds ++ es)
AllDigits-append [] es a b = b
AllDigits-append (d ∷ ds) es a b = (a.0, AllDigits-append ds es a.1 b)

pub number_after-append : (n : ℕ) (ds es : List ℕ) → number_after n (ds ++ es) ≡ number_after (number_after n ds) es
number_after-append n [] es = refl
number_after-append n (d ∷ ds) es = number_after-append (10 * n + (d - 48)) ds es

-- further digits never make a number smaller
pub number_after-le : (n : ℕ) (ds : List ℕ) → n ≤ number_after n ds
number_after-le n [] = omega arith
number_after-le n (d ∷ ds) = omega (arith, number_after-le (10 * n + (d - 48)) ds)

pub number_of-le : (ds es : List ℕ) → number_of ds ≤ number_of (ds ++ es)
number_of-le ds es = subst (λ m. number_of ds ≤ m) (sym (number_after-append 0 ds es)) (number_after-le (number_of ds) es)

pub AllDigits-rest : (ds es : List ℕ) → AllDigits (ds ++ es) → AllDigits es
AllDigits-rest [] es a = a
AllDigits-rest (d ∷ ds) es a = AllDigits-rest ds es a.1
