-- Canvases that show the same.
use Rattle.std.proofs.Common.{◌≡◌, ℕ, ◌<◌, List, length, Bool, true, false, refl, sym, ◌∙◌, subst}
use Rattle.std.specs.Prelude.{◌↔◌, ◌&&◌, Option, Some, None, IfSome, IsTrue, slice_index_or}
use Rattle.std.proofs.lemmas.List.{get_or_default}
use Rattle.gate_model.specs.picture.Layers.{Layers, Same}
use Rattle.canvas.specs.Kept.{KeptLayer}
use Rattle.canvas.specs.Standing.{Stands}
use Rattle.gate_script.specs.Seeing.{AreAlike, AreUnlike, Canvases}

abbrev Place : Type 0
Place = Option (List KeptLayer)

pub alike : (one other : Place) (a b : List KeptLayer) (same : Bool) → one ≡ Some a → other ≡ Some b → ((m n : Layers) → Stands a m → Stands b n → (IsTrue same ↔ Same m n)) → same ≡ true → AreAlike one other
alike one other a b same is is' tells holds = λ m n s t both.
    (tells m n (subst (λ (o : Place). IfSome o (λ canvas. Stands canvas m)) is s) (subst (λ (o : Place). IfSome o (λ canvas. Stands canvas n)) is' t)).0 holds

pub unlike : (one other : Place) (a b : List KeptLayer) (same : Bool) → one ≡ Some a → other ≡ Some b → ((m n : Layers) → Stands a m → Stands b n → (IsTrue same ↔ Same m n)) → same ≡ false → AreUnlike one other
unlike one other a b same is is' tells fails = record {
  there = rw (is, is') refl;
  differ = λ m n s t alike_.
      let w : same ≡ true = (tells m n (subst (λ (o : Place). IfSome o (λ canvas. Stands canvas m)) is s) (subst (λ (o : Place). IfSome o (λ canvas. Stands canvas n)) is' t)).1 alike_ in
      (let e : false ≡ true = sym fails ∙ w in cc);
}

-- .. at two places of a list
pub alike_at : (cs : Canvases) (i j : ℕ) (one other : Place) → i < length cs → j < length cs → one ≡ slice_index_or cs i one → other ≡ slice_index_or cs j other → AreAlike one other → AreAlike (slice_index_or cs i None) (slice_index_or cs j None)
alike_at cs i j one other less less' is is' w =
    subst (λ (o : Place). AreAlike o (slice_index_or cs j None)) (is ∙ get_or_default cs i one None less) (subst (λ (o : Place). AreAlike one o) (is' ∙ get_or_default cs j other None less') w)

pub unlike_at : (cs : Canvases) (i j : ℕ) (one other : Place) → i < length cs → j < length cs → one ≡ slice_index_or cs i one → other ≡ slice_index_or cs j other → AreUnlike one other → AreUnlike (slice_index_or cs i None) (slice_index_or cs j None)
unlike_at cs i j one other less less' is is' w =
    subst (λ (o : Place). AreUnlike o (slice_index_or cs j None)) (is ∙ get_or_default cs i one None less) (subst (λ (o : Place). AreUnlike one o) (is' ∙ get_or_default cs j other None less') w)
