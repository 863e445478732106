-- The buffers that a snapshot makes anew, over any layers.
use Rattle.std.proofs.Common.{◌≡◌, ◌≢◌, ℕ, zero, suc, ◌+◌, ◌*◌, ◌/◌, ◌<◌, ◌≤◌, ℤ, pos, negsuc, List, [], ◌∷◌, length, Bool, true, false, refl, sym, ap, subst, ◌∙◌, arith, inl, inr}
use Rattle.std.specs.Prelude.{Option, Some, None, slice_get}
use Rattle.std.specs.Ordering.{int_eq}
use Rattle.std.proofs.lemmas.Bool.{cases_eq, cases_lt}
use Rattle.std.proofs.lemmas.Bool.Decides.{Decides-int_eq}
use Rattle.gate_model.specs.declared.instr.Instr.{Instr}
use Rattle.gate_model.specs.declared.instr.Instr.TheVariants.{Size}
use Rattle.gate_model.specs.declared.key.Key.{Key}
use Rattle.gate_model.specs.picture.KeyGrid.{KeyGrid}
use Rattle.gate_model.specs.picture.Layers.{Layer, Layers, IsAlike, HasNoPaths, draw, empty_layer, open_path, sized}
use Rattle.gate_model.specs.picture.Buffers.{Buffers, IsWithin, layer_of, layers}
use Rattle.gate_model.proofs.Drawing.{draw-append}
use Rattle.frame_draw.specs.Cells.{Places, AreDrawn}
use Rattle.glyph_strokes.proofs.Filled.{covered_anew, AreFor, HasGlyph, after, covering_for, drawn_here, drawn_there}
use Rattle.frame_draw.proofs.Copied.{other_stays}
use Rattle.join_snapshot.specs.Strokes.{buffer_of}
use Rattle.join_snapshot.specs.Snapshot.{buffer_made, buffers_below}

-- the visible layer has the screen's size, the first buffers have the glyphs of their keys, no layer has a size
-- but the visible one and the buffers of keys, and nothing is unfilled
pub record AreMade (m : Layers) (cols rows : ℕ) (keys : Buffers) (count : ℕ) : Type 0 where
  pub width : (m (pos 0)).width ≡ 8 * cols
  pub height : (m (pos 0)).height ≡ 16 * rows
  pub buffers : (n : ℕ) → n < count → IsAlike (m (negsuc n)) (layer_of (slice_get keys n))
  pub unmade : (n : ℕ) → slice_get keys n ≡ None → IsAlike (m (negsuc n)) empty_layer
  pub others : (n : ℕ) → IsAlike (m (pos (suc n))) empty_layer
  pub no_paths : HasNoPaths m

other_buffer : (j n : ℕ) → j ≢ n → int_eq (negsuc j) (negsuc n) ≡ false
other_buffer j n ne = cases (int_eq (negsuc j) (negsuc n)) refl
  where
    cases : (b : Bool) → int_eq (negsuc j) (negsuc n) ≡ b → int_eq (negsuc j) (negsuc n) ≡ false
    cases false e = e
    cases true e = absurd (let same : negsuc j ≡ negsuc n = (Decides-int_eq (negsuc j) (negsuc n)).0 e in let eq : j ≡ n = cc in ne eq)

-- ---- a layer without a size
no_size : (l : Layer) → l.width ≡ 0 → l.height ≡ 0 → IsAlike l empty_layer
no_size l w h = record { width = w; height = h; pixels = λ x y low high. absurd (omega (arith, w, low)) }

-- ---- at first
pub sized_first : (m : Layers) (now : KeyGrid) (keys : Buffers) → HasNoPaths m → IsWithin m (layers now keys)
    → AreMade (draw m (Size (pos 0) (8 * now.cols) (16 * now.rows) ∷ [])) now.cols now.rows keys 0
sized_first m now keys none within = record {
  width = refl;
  height = refl;
  buffers = λ n lt. absurd (omega (arith, lt));
  unmade = λ n e. let w = within (negsuc n) (ap (λ (o : Option Key). (layer_of o).width) e) (ap (λ (o : Option Key). (layer_of o).height) e) in no_size (m (negsuc n)) w.0 w.1;
  others = λ n. let w = within (pos (suc n)) refl refl in subst (λ (l : Layer). IsAlike l empty_layer) (other_stays m (sized (m (pos 0)) (8 * now.cols) (16 * now.rows)) n) (no_size (m (pos (suc n))) w.0 w.1);
  no_paths = closed;
}
  where
    closed : HasNoPaths (draw m (Size (pos 0) (8 * now.cols) (16 * now.rows) ∷ []))
    closed (pos zero) = none (pos 0)
    closed (pos (suc n)) = subst (λ (l : Layer). open_path l ≡ []) (other_stays m (sized (m (pos 0)) (8 * now.cols) (16 * now.rows)) n) (none (pos (suc n)))
    closed (negsuc n) = none (negsuc n)

-- ---- one buffer
painted_anew : (l : Layer) (k : ℤ) (key : Key) → open_path l ≡ [] → HasGlyph (after l (buffer_of k key)) key
unfolding buffer_of
painted_anew l k key none = covered_anew l k key none

buffer_for : (k : ℤ) (key : Key) → AreFor k (buffer_of k key)
unfolding buffer_of
buffer_for k key = (refl, covering_for k 0 0 key)

module _ (m : Layers) (cols rows : ℕ) (keys : Buffers) (n : ℕ) (a : AreMade m cols rows keys n) where
  -- without a key
  passed : slice_get keys n ≡ None → AreMade m cols rows keys (suc n)
  passed none = record {
    width = a.width;
    height = a.height;
    buffers = λ j lt. elim (cases_eq j n) as (λ _. IsAlike (m (negsuc j)) (layer_of (slice_get keys j))) [
      | inl e ↦ subst (λ (i : ℕ). IsAlike (m (negsuc i)) (layer_of (slice_get keys i))) (sym e) (subst (λ (o : Option Key). IsAlike (m (negsuc n)) (layer_of o)) (sym none) (a.unmade n none))
      | inr ne ↦ a.buffers j (omega (arith, lt, ne))
    ];
    unmade = a.unmade;
    others = a.others;
    no_paths = a.no_paths;
  }

  module _ (key : Key) (got : slice_get keys n ≡ Some key) where
    abbrev is : List Instr
    is = buffer_of (negsuc n) key

    has : HasGlyph (draw m is (negsuc n)) key
    has = subst (λ (l : Layer). HasGlyph l key) (sym (drawn_here m (negsuc n) is (buffer_for (negsuc n) key))) (painted_anew (m (negsuc n)) (negsuc n) key (a.no_paths (negsuc n)))

    stays : (j : ℤ) → int_eq j (negsuc n) ≡ false → m j ≡ draw m is j
    stays j e = sym (drawn_there m (negsuc n) is j (buffer_for (negsuc n) key) e)

    not_none : (j : ℕ) → slice_get keys j ≡ None → j ≢ n
    not_none j none e = absurd (let wrong : Some key ≡ None = sym got ∙ (ap (slice_get keys) (sym e) ∙ none) in cc)

    closed : HasNoPaths (draw m is)
    closed (pos j) = subst (λ (l : Layer). open_path l ≡ []) (stays (pos j) refl) (a.no_paths (pos j))
    closed (negsuc j) = elim (cases_eq j n) as (λ _. open_path (draw m is (negsuc j)) ≡ []) [
      | inl e ↦ subst (λ (i : ℕ). open_path (draw m is (negsuc i)) ≡ []) (sym e) has.no_path
      | inr ne ↦ subst (λ (l : Layer). open_path l ≡ []) (stays (negsuc j) (other_buffer j n ne)) (a.no_paths (negsuc j))
    ]

    made : AreMade (draw m is) cols rows keys (suc n)
    made = record {
      width = ap (λ (l : Layer). l.width) (sym (stays (pos 0) refl)) ∙ a.width;
      height = ap (λ (l : Layer). l.height) (sym (stays (pos 0) refl)) ∙ a.height;
      buffers = λ j lt. elim (cases_eq j n) as (λ _. IsAlike (draw m is (negsuc j)) (layer_of (slice_get keys j))) [
        | inl e ↦ subst (λ (i : ℕ). IsAlike (draw m is (negsuc i)) (layer_of (slice_get keys i))) (sym e) (subst (λ (o : Option Key). IsAlike (draw m is (negsuc n)) (layer_of o)) (sym got) has.look)
        | inr ne ↦ subst (λ (l : Layer). IsAlike l (layer_of (slice_get keys j))) (stays (negsuc j) (other_buffer j n ne)) (a.buffers j (omega (arith, lt, ne)))
      ];
      unmade = λ j none. subst (λ (l : Layer). IsAlike l empty_layer) (stays (negsuc j) (other_buffer j n (not_none j none))) (a.unmade j none);
      others = λ j. subst (λ (l : Layer). IsAlike l empty_layer) (stays (pos (suc j)) refl) (a.others j);
      no_paths = closed;
    }

  one_buffer : (o : Option Key) → slice_get keys n ≡ o → AreMade (draw m (buffer_made n o)) cols rows keys (suc n)
  one_buffer None e = passed e
  one_buffer (Some key) e = made key e

pub all_made : (m : Layers) (cols rows : ℕ) (keys : Buffers) (count : ℕ) → AreMade m cols rows keys 0 → AreMade (draw m (buffers_below keys count)) cols rows keys count
all_made m cols rows keys zero a = a
all_made m cols rows keys (suc n) a =
    subst (λ (l : Layers). AreMade l cols rows keys (suc n)) (sym (draw-append m (buffers_below keys n) (buffer_made n (slice_get keys n))))
    (one_buffer (draw m (buffers_below keys n)) cols rows keys n (all_made m cols rows keys n a) (slice_get keys n) refl)

-- ---- at last
past : (keys : Buffers) (n : ℕ) → length keys ≤ n → slice_get keys n ≡ None
past [] n le = refl
past (k ∷ keys) zero le = absurd (omega (arith, le))
past (k ∷ keys) (suc n) le = past keys n (omega (arith, le))

pub made_all : (m : Layers) (cols rows : ℕ) (at : Places) (keys : Buffers) (count : ℕ) → length keys ≤ count → ((p : ℕ) → at p ≡ None) → AreMade m cols rows keys count → AreDrawn m cols rows at keys
made_all m cols rows at keys count few unknown a = record {
  width = a.width;
  height = a.height;
  pixels = λ x y k low high e. absurd (let wrong : None ≡ Some k = sym (unknown ((y / 16) * cols + x / 8)) ∙ e in cc);
  buffers = λ n. elim (cases_lt n count) as (λ _. IsAlike (m (negsuc n)) (layer_of (slice_get keys n))) [
    | inl lt ↦ a.buffers n lt
    | inr le ↦ subst (λ (o : Option Key). IsAlike (m (negsuc n)) (layer_of o)) (sym (past keys n (omega (arith, few, le)))) (a.unmade n (past keys n (omega (arith, few, le))))
  ];
  others = a.others;
  no_paths = a.no_paths;
}
