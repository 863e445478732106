-- What the layers of a screen and its buffers give: layers keep their sizes, and a list that makes them restores.
use Rattle.std.proofs.Common.{◌≡◌, suc, ◌*◌, ◌<◌, ◌≤◌, pos, negsuc, List, [], ◌∷◌, length, ◌⊎◌, inl, inr, refl, sym, ◌∙◌, arith}
use Rattle.std.specs.Prelude.{Option, Some, None, slice_get, get_or, zero}
use Rattle.std.proofs.lemmas.Option.{slice_get_cases, slice_get_within}
use Rattle.gate_model.specs.declared.key.Key.{Key}
use Rattle.gate_model.specs.declared.instr.Instr.{Instr}
use Rattle.gate_model.specs.declared.entry.Entry.{Entry}
use Rattle.gate_model.specs.picture.KeyGrid.{KeyGrid}
use Rattle.gate_model.specs.picture.Layers.{Layers}
use Rattle.gate_model.specs.picture.Buffers.{Buffers, layer_of, layers, IsWithin, AreLayers, Makes}
use Rattle.gate_model.specs.terminal.Screens.{shown}
use Rattle.gate_model.specs.session.History.{History, at}
use Rattle.gate_model.specs.session.Steps.{Legal}
use Rattle.gate_model.specs.session.Truth.{all_layers}
use Rattle.gate_model.specs.session.Whole.{Restores, AllGrowing}
use Rattle.gate_model.proofs.Histories.{legal-size}
use Rattle.gate_model.proofs.Sized.{sized_of}

-- a screen with at least as many buffers has each layer that has a size
grown_layer : (s u : KeyGrid) (keys more : Buffers) → 1 ≤ u.cols → length keys ≤ length more → IsWithin (layers s keys) (layers u more)
grown_layer s u keys more some le (pos zero) w y = absurd (let there : 8 * u.cols ≡ 0 = w in omega (arith, there, some))
grown_layer s u keys more some le (pos (suc n)) w y = (refl, refl)
grown_layer s u keys more some le (negsuc n) w y = cases (slice_get keys n) (slice_get more n) refl refl w
  where
    cases : (o p : Option Key) → slice_get keys n ≡ o → slice_get more n ≡ p → (layer_of p).width ≡ 0 → ((layer_of (slice_get keys n)).width ≡ 0) × ((layer_of (slice_get keys n)).height ≡ 0)
    cases None p e f z = rw e (refl, refl)
    cases (Some k) (Some j) e f z = absurd (let wrong : 8 ≡ 0 = z in omega arith)
    cases (Some k) None e f z = absurd (there k e f (slice_get_cases more n).1)
      where
        there : (k : Key) → slice_get keys n ≡ Some k → slice_get more n ≡ None → ((x : Key) × (n < length more) × (slice_get more n ≡ Some x) × (get_or more n x ≡ x)) ⊎ ((length more ≤ n) × (slice_get more n ≡ None)) → ⊥
        there k e f (inl p) = let wrong : Some p.0 ≡ None = sym p.2 ∙ f in cc
        there k e f (inr p) = omega (arith, slice_get_within keys n k e, p.0, le)

-- layers that keep the screen's size and the buffers keep their sizes
grown : (m n : Layers) (s u : KeyGrid) (keys more : Buffers) → 1 ≤ u.cols → length keys ≤ length more → AreLayers m s keys → AreLayers n u more → IsWithin m n
grown m n s u keys more some le a b k w y =
    let old = a.same k in
    let new = b.same k in
    let none = grown_layer s u keys more some le k (sym new.width ∙ w) (sym new.height ∙ y) in
    (old.width ∙ none.0, old.height ∙ none.1)

-- .. from each entry of a legal history to the next
pub growing-next : (h : History) (e : Entry) (before after : Buffers) → Legal (e ∷ h) → length before ≤ length after
    → AreLayers (all_layers h) (shown (at h)) before → AreLayers (all_layers (e ∷ h)) (shown (at (e ∷ h))) after → AllGrowing h → AllGrowing (e ∷ h)
growing-next [] e before after l le a b d = (d, λ k w y. (refl, refl))
growing-next (f ∷ g) e before after l le a b d =
    let size = legal-size (e ∷ f ∷ g) l in
    let some : 1 ≤ (shown (at (e ∷ f ∷ g))).cols = omega (arith, (sized_of (e ∷ f ∷ g) l).cols, size.some_columns) in
    (d, grown (all_layers (f ∷ g)) (all_layers (e ∷ f ∷ g)) (shown (at (f ∷ g))) (shown (at (e ∷ f ∷ g))) before after some le a b)

-- a list that makes the layers of the screen and the buffers of any others restores
pub restores_of : (h : History) (keys : Buffers) (is : List Instr) → AreLayers (all_layers h) (shown (at h)) keys → Makes is (shown (at h)) keys → Restores h is
restores_of g keys is a makes m shut within k =
    let sizes : IsWithin m (layers (shown (at g)) keys) = λ j w y. within j ((a.same j).width ∙ w) ((a.same j).height ∙ y) in
    let mine = makes m shut sizes k in
    let all = a.same k in
    record {
      width = mine.width ∙ sym all.width;
      height = mine.height ∙ sym all.height;
      pixels = λ x y low high. mine.pixels x y low high ∙ sym (all.pixels x y (omega (arith, mine.width, all.width, low)) (omega (arith, mine.height, all.height, high)));
    }
