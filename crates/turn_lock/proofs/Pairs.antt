-- Lemmas on what holds of each item of a list, and of each two.
use Rattle.std.proofs.Common.{◌≡◌, ◌≢◌, ◌⊎◌, inl, inr, ⊎_elim, ℕ, zero, suc, List, [], ◌∷◌, ◌++◌, length, slice_set, refl, ap, sym, ◌∙◌, subst}
use mathlib.Core.Option.{some, some-injective, some-ne-none}
use lib.ListN.{get_elem?}
use mathlib.Core.Logic.{dite}
use native.Mathlib.Decide.{ℕ_discrete}
use Rattle.atomic_table.proofs.Lists.{at_set, set_else, at_longer}
use Rattle.turn_lock.specs.Rule.{Each, EachTwo, Found}

module _ {A : Type 0} where
  -- an item of a list with one more at its end
  at_end : (xs : List A) (w x : A) (i : ℕ) → get_elem? (xs ++ w ∷ []) i ≡ some x → (get_elem? xs i ≡ some x) ⊎ ((i ≡ length xs) × (w ≡ x))
  at_end [] w x zero at = inr (refl, some-injective w x at)
  at_end [] w x (suc i) at = absurd (some-ne-none x (sym at))
  at_end (y ∷ ys) w x zero at = inl at
  at_end (y ∷ ys) w x (suc i) at = ⊎_elim (λ h. inl h) (λ h. inr (ap suc h.0, h.1)) (at_end ys w x i at)

  pub each_set : (P : A → Type 0) (xs : List A) (id : ℕ) (w : A) → P w → ((i : ℕ) (x : A) → i ≢ id → get_elem? xs i ≡ some x → P x) → Each P (slice_set xs id w)
  each_set P xs id w mine others i x at = ⊎_elim (λ h. subst P h.1 mine) (λ h. others i x h.0 h.1) (at_set xs id i w x at)

  pub each_end : (P : A → Type 0) (xs : List A) (w : A) → P w → Each P xs → Each P (xs ++ w ∷ [])
  each_end P xs w last all i x at = ⊎_elim (λ h. all i x h) (λ h. subst P h.1 last) (at_end xs w x i at)

  pub set_at : (xs : List A) (i : ℕ) (v w : A) → get_elem? xs i ≡ some v → get_elem? (slice_set xs i w) i ≡ some w
  set_at [] i v w at = absurd (some-ne-none v (sym at))
  set_at (x ∷ xs) zero v w at = refl
  set_at (x ∷ xs) (suc i) v w at = set_at xs i v w at

  pub found_set : (P : A → Type 0) (xs : List A) (id : ℕ) (v w : A) → get_elem? xs id ≡ some v → (P v → P w) → Found P xs → Found P (slice_set xs id w)
  found_set P xs id v w at keeps f =
      dite (ℕ_discrete f.0 id)
      (λ same. (id, w, set_at xs id v w at, keeps (subst P (some-injective f.1 v (sym f.2 ∙ (ap (get_elem? xs) same ∙ at))) f.3)))
      (λ other. (f.0, f.1, set_else xs id f.0 w other ∙ f.2, f.3))

  pub found_end : (P : A → Type 0) (xs : List A) (w : A) → Found P xs → Found P (xs ++ w ∷ [])
  found_end P xs w f = (f.0, f.1, at_longer xs (w ∷ []) f.0 f.1 f.2, f.3)

  module _ (R : A → A → Type 0) (flip : (x y : A) → R x y → R y x) where
    pub two_set : (xs : List A) (id : ℕ) (w : A) → ((i : ℕ) (x : A) → i ≢ id → get_elem? xs i ≡ some x → R w x) → EachTwo R xs → EachTwo R (slice_set xs id w)
    two_set xs id w mine all i j x y ne at_i at_j =
        ⊎_elim
        (λ h. ⊎_elim (λ k. absurd (ne (h.0 ∙ sym k.0))) (λ k. subst (λ (z : A). R z y) h.1 (mine j y k.0 k.1)) (at_set xs id j w y at_j))
        (λ h. ⊎_elim (λ k. subst (R x) k.1 (flip w x (mine i x h.0 h.1))) (λ k. all i j x y ne h.1 k.1) (at_set xs id j w y at_j))
        (at_set xs id i w x at_i)

    pub two_end : (xs : List A) (w : A) → Each (R w) xs → EachTwo R xs → EachTwo R (xs ++ w ∷ [])
    two_end xs w last all i j x y ne at_i at_j =
        ⊎_elim
        (λ h. ⊎_elim (λ k. all i j x y ne h k) (λ k. subst (R x) k.1 (flip w x (last i x h))) (at_end xs w y j at_j))
        (λ h. ⊎_elim (λ k. subst (λ (z : A). R z y) h.1 (last j y k)) (λ k. absurd (ne (h.0 ∙ sym k.0))) (at_end xs w y j at_j))
        (at_end xs w x i at_i)
