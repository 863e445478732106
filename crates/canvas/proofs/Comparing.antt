-- Canvases are compared place by place.
use Rattle.std.proofs.Common.{◌≡◌, ℕ, zero, suc, ◌+◌, ◌<◌, ◌≤◌, inl, inr, ℤ, pos, negsuc, List, length, get_or, refl, sym, subst, ◌∙◌, arith}
use Rattle.std.proofs.lemmas.Bool.{cases_lt}
use Rattle.std.proofs.lemmas.List.{get_or_past}
use Rattle.gate_model.specs.picture.Layers.{IsAlike, Layer, Layers, Same}
use Rattle.canvas.specs.Kept.{IsKeptAlike, KeptLayer, kept_empty}
use Rattle.canvas.specs.Standing.{Keeps, Stands, kept_at}
use Rattle.canvas.proofs.Places.{none_above}

alike_from_kept : (j k : KeptLayer) (l r : Layer) → Keeps j l → Keeps k r → IsKeptAlike j k → IsAlike l r
alike_from_kept j k l r of_l of_r a = record {
  width = of_l.width ∙ (a.width ∙ sym of_r.width);
  height = of_l.height ∙ (a.height ∙ sym of_r.height);
  pixels = λ x y in_x in_y.
      of_l.pixels x y in_x in_y
      ∙ (a.pixels x y (subst (λ (n : ℕ). x < n) of_l.width in_x) (subst (λ (n : ℕ). y < n) of_l.height in_y)
      ∙ sym (of_r.pixels x y (subst (λ (n : ℕ). x < n) (of_l.width ∙ (a.width ∙ sym of_r.width)) in_x) (subst (λ (n : ℕ). y < n) (of_l.height ∙ (a.height ∙ sym of_r.height)) in_y)));
}

kept_from_alike : (j k : KeptLayer) (l r : Layer) → Keeps j l → Keeps k r → IsAlike l r → IsKeptAlike j k
kept_from_alike j k l r of_l of_r a = record {
  width = sym of_l.width ∙ (a.width ∙ of_r.width);
  height = sym of_l.height ∙ (a.height ∙ of_r.height);
  pixels = λ x y in_x in_y.
      let in_l : x < l.width = subst (λ (n : ℕ). x < n) (sym of_l.width) in_x in
      let below_l : y < l.height = subst (λ (n : ℕ). y < n) (sym of_l.height) in_y in
      sym (of_l.pixels x y in_l below_l)
      ∙ (a.pixels x y in_l below_l
      ∙ of_r.pixels x y (subst (λ (n : ℕ). x < n) a.width in_l) (subst (λ (n : ℕ). y < n) a.height below_l));
}

alike_itself : (k : KeptLayer) → IsKeptAlike k k
alike_itself k = record { width = refl; height = refl; pixels = λ x y in_x in_y. refl }

-- every place is compared, and past the ends of both there is nothing
all_places : (left right : List KeptLayer) (end : ℕ) → length left ≤ end → length right ≤ end
    → ((i : ℕ) → i < end → IsKeptAlike (get_or left i kept_empty) (get_or right i kept_empty)) → (i : ℕ) → IsKeptAlike (get_or left i kept_empty) (get_or right i kept_empty)
all_places left right end past_left past_right below i = elim (cases_lt i end) [
  | inl inside ↦ below i inside
  | inr outside ↦
      subst (λ (k : KeptLayer). IsKeptAlike k (get_or right i kept_empty)) (sym (get_or_past left i kept_empty (omega arith)))
      (subst (λ (k : KeptLayer). IsKeptAlike kept_empty k) (sym (get_or_past right i kept_empty (omega arith))) (alike_itself kept_empty))
]

each_number : (left right : List KeptLayer) → ((i : ℕ) → IsKeptAlike (get_or left i kept_empty) (get_or right i kept_empty)) → (k : ℤ) → IsKeptAlike (kept_at left k) (kept_at right k)
each_number left right each (pos zero) = each 0
each_number left right each (pos (suc n)) =
    subst (λ (k : KeptLayer). IsKeptAlike k (kept_at right (pos (suc n)))) (sym (none_above left n))
    (subst (λ (k : KeptLayer). IsKeptAlike kept_empty k) (sym (none_above right n)) (alike_itself kept_empty))
each_number left right each (negsuc n) = each (n + 1)

pub all_same : (left right : List KeptLayer) (end : ℕ) → length left ≤ end → length right ≤ end
    → ((i : ℕ) → i < end → IsKeptAlike (get_or left i kept_empty) (get_or right i kept_empty)) → (m n : Layers) → Stands left m → Stands right n → Same m n
all_same left right end past_left past_right below m n of_m of_n k =
    alike_from_kept (kept_at left k) (kept_at right k) (m k) (n k) (of_m k) (of_n k) (each_number left right (all_places left right end past_left past_right below) k)

-- the same layers are alike at each place
pub alike_place : (left right : List KeptLayer) (i : ℕ) (m n : Layers) → Stands left m → Stands right n → Same m n → IsKeptAlike (get_or left i kept_empty) (get_or right i kept_empty)
alike_place left right zero m n of_m of_n s = kept_from_alike (kept_at left (pos 0)) (kept_at right (pos 0)) (m (pos 0)) (n (pos 0)) (of_m (pos 0)) (of_n (pos 0)) (s (pos 0))
alike_place left right (suc i) m n of_m of_n s =
    let e : i + 1 ≡ suc i = omega arith in
    subst (λ (j : ℕ). IsKeptAlike (get_or left j kept_empty) (get_or right j kept_empty)) e
    (kept_from_alike (kept_at left (negsuc i)) (kept_at right (negsuc i)) (m (negsuc i)) (n (negsuc i)) (of_m (negsuc i)) (of_n (negsuc i)) (s (negsuc i)))
