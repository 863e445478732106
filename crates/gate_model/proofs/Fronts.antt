-- Lists that begin with another list.
use Rattle.std.proofs.Common.{◌≡◌, List, [], ◌∷◌, ◌++◌, ◌⊎◌, inl, inr, refl}
use Rattle.gate_model.specs.Sequences.{BeginsWith}

module _ {A : Type 0} where
  -- a front that ends with x either lies in the first of two lists, or takes it whole and goes on
  pub front_cases : (xs ys front : List A) (x : A) → BeginsWith (xs ++ ys) (front ++ x ∷ [])
      → BeginsWith xs (front ++ x ∷ []) ⊎ ((more : List A) × (front ≡ xs ++ more) × BeginsWith ys (more ++ x ∷ []))
  front_cases [] ys front x h = inr (front, refl, h)
  front_cases (a ∷ xs) ys [] x h = inl (xs, (let e : a ∷ (xs ++ ys) ≡ x ∷ h.0 = h.1 in cc))
  front_cases (a ∷ xs) ys (f ∷ fs) x h =
      let e : a ∷ (xs ++ ys) ≡ f ∷ ((fs ++ x ∷ []) ++ h.0) = h.1 in
      let tails : xs ++ ys ≡ (fs ++ x ∷ []) ++ h.0 = cc in
      let heads : a ≡ f = cc in
      elim (front_cases xs ys fs x (h.0, tails)) as (λ _. BeginsWith (a ∷ xs) (f ∷ fs ++ x ∷ []) ⊎ ((more : List A) × (f ∷ fs ≡ a ∷ xs ++ more) × BeginsWith ys (more ++ x ∷ []))) [
        | inl p ↦ inl (p.0, (let q : xs ≡ (fs ++ x ∷ []) ++ p.0 = p.1 in cc))
        | inr p ↦ inr (p.0, (let q : fs ≡ xs ++ p.0 = p.1 in cc), p.2)
      ]
