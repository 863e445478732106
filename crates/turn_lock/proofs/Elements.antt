-- Lemmas on elements of a list, on places, and on histories that grew.
use Rattle.std.proofs.Common.{◌≡◌, ◌⊎◌, inl, inr, ⊎_elim, ℕ, zero, suc, ◌<◌, ◌≤◌, List, [], ◌∷◌, ◌++◌, length, refl, ap, sym, ◌∙◌, subst, arith, length-append, append_assoc}
use Rattle.std.specs.Prelude.{Contains, slice_index_or}
use Rattle.std.proofs.lemmas.List.{append-nil}
use Rattle.std.proofs.lemmas.List.Elements.{Contains-append_right, Contains-append_cases}
use Rattle.gate_model.specs.Sequences.{IsLater}
use Rattle.turn_lock.specs.Places.{NoneTwice, IsAt}

module _ {A : Type 0} where
  pub contains_none : (x : A) → ¬ (Contains [] x)
  contains_none x c = let h = c.1 in absurd (omega arith)

  pub contains_head : (x : A) (xs : List A) → Contains (x ∷ xs) x
  contains_head x xs = (0, omega arith, refl)

  pub contains_tail : (x y : A) (xs : List A) → Contains xs y → Contains (x ∷ xs) y
  contains_tail x y xs c = Contains-append_right (x ∷ []) xs y c

  only_one : (x y : A) (k : ℕ) → k < 1 → slice_index_or (x ∷ []) k y ≡ y → x ≡ y
  only_one x y zero h at = at
  only_one x y (suc k) h at = absurd (omega arith)

  pub contains_cases : (x y : A) (xs : List A) → Contains (x ∷ xs) y → (x ≡ y) ⊎ Contains xs y
  contains_cases x y xs c = ⊎_elim (λ h. inl (only_one x y h.0 h.1 h.2)) (λ h. inr h) (Contains-append_cases (x ∷ []) xs y c)

  pub later_refl : (h : List A) → IsLater h h
  later_refl h = ([], refl)

  pub later_none : (h : List A) → IsLater [] h
  later_none h = (h, sym (append-nil h))

  pub later_cons : (x : A) (old new : List A) → IsLater old new → IsLater old (x ∷ new)
  later_cons x old new l = (x ∷ l.0, ap (λ (z : List A). x ∷ z) l.1)

  pub later_trans : (one two three : List A) → IsLater one two → IsLater two three → IsLater one three
  later_trans one two three a b = (b.0 ++ a.0, b.1 ∙ (ap (λ (z : List A). b.0 ++ z) a.1 ∙ sym (append_assoc b.0 a.0 one)))

  pub later_length : (old new : List A) → IsLater old new → length old ≤ length new
  later_length old new l = omega (arith, ap length l.1, length-append l.0 old)

  both_more : (more others xs ys : List A) → more ++ xs ≡ others ++ ys → length xs ≤ length ys → IsLater xs ys
  both_more more [] xs ys e le = (more, sym e)
  both_more [] (o ∷ others) xs ys e le = absurd (omega (arith, ap length e, length-append others ys))
  both_more (m ∷ more) (o ∷ others) xs ys e le = both_more more others xs ys (cc) le

  -- of two lists that begin the same list, the one that is no longer begins the other
  pub later_both : (xs ys all : List A) → IsLater xs all → IsLater ys all → length xs ≤ length ys → IsLater xs ys
  later_both xs ys all a b le = both_more a.0 b.0 xs ys (sym a.1 ∙ b.1) le

  pub at_below : (h : List A) (p : ℕ) (e : A) → IsAt h p e → p < length h
  at_below [] p e a = absurd a
  at_below (x ∷ xs) p e a = ⊎_elim (λ h. let k = h.0 in omega arith) (λ h. let k = at_below xs p e h in omega arith) a

  at_more : (more old : List A) (p : ℕ) (e : A) → IsAt old p e → IsAt (more ++ old) p e
  at_more [] old p e a = a
  at_more (x ∷ more) old p e a = inr (at_more more old p e a)

  pub at_later : (old new : List A) (p : ℕ) (e : A) → IsLater old new → IsAt old p e → IsAt new p e
  at_later old new p e l a = subst (λ (z : List A). IsAt z p e) (sym l.1) (at_more l.0 old p e a)

pub none_twice_both : (xs ys : List ℕ) → NoneTwice xs → NoneTwice ys → ((p : ℕ) → Contains xs p → ¬ (Contains ys p)) → NoneTwice (xs ++ ys)
none_twice_both [] ys a b apart = b
none_twice_both (x ∷ xs) ys a b apart =
    (λ c. ⊎_elim a.0 (apart x (contains_head x xs)) (Contains-append_cases xs ys x c), none_twice_both xs ys a.1 b (λ p c. apart p (contains_tail x p xs c)))

pub none_twice_apart : (xs ys : List ℕ) → NoneTwice (xs ++ ys) → (p : ℕ) → Contains xs p → ¬ (Contains ys p)
none_twice_apart [] ys a p c d = contains_none p c
none_twice_apart (x ∷ xs) ys a p c d =
    ⊎_elim (λ e. a.0 (Contains-append_right xs ys x (subst (Contains ys) (sym e) d))) (λ h. none_twice_apart xs ys a.1 p h d) (contains_cases x p xs c)
