-- A buffer that is painted shows its key, and every other layer stays.
use Rattle.std.proofs.Common.{◌≡◌, ◌≢◌, ℕ, zero, suc, ◌<◌, ℤ, pos, negsuc, List, [], ◌∷◌, ◌++◌, length, Bool, true, false, refl, sym, ap, subst, ◌∙◌, arith, inl, inr}
use Rattle.std.specs.Prelude.{Option, Some, slice_get, slice_set}
use Rattle.std.specs.Ordering.{int_eq}
use Rattle.std.proofs.lemmas.Bool.{cases_eq}
use Rattle.std.proofs.lemmas.Bool.Decides.{Decides-int_eq}
use Rattle.gate_model.specs.declared.instr.Instr.{Instr}
use Rattle.gate_model.specs.declared.instr.Instr.TheVariants.{Size}
use Rattle.gate_model.specs.declared.key.Key.{Key}
use Rattle.gate_model.specs.picture.Layers.{Layer, Layers, IsAlike, HasNoPaths, draw, empty_layer, open_path}
use Rattle.gate_model.specs.picture.Buffers.{Buffers, layer_of}
use Rattle.glyph_cache.specs.declared.slot.SlotKind.{SlotKind}
use Rattle.glyph_cache.specs.declared.slot.SlotKind.TheVariants.{Held, Made, Reused}
use Rattle.glyph_cache.specs.Cache.{Gets}
use Rattle.glyph_strokes.specs.Strokes.{covering}
use Rattle.frame_draw.specs.Strokes.{painting}
use Rattle.frame_draw.specs.Cells.{Places, AreDrawn}
use Rattle.frame_draw.proofs.Entries.{get_added, get_before, get_set, get_other}
use Rattle.glyph_strokes.proofs.Filled.{AreFor, HasGlyph, after, drawn_here, drawn_there, covered, covered_anew, covering_for}

other_buffer : (j n : ℕ) → j ≢ n → int_eq (negsuc j) (negsuc n) ≡ false
other_buffer j n ne = cases (int_eq (negsuc j) (negsuc n)) refl
  where
    cases : (b : Bool) → int_eq (negsuc j) (negsuc n) ≡ b → int_eq (negsuc j) (negsuc n) ≡ false
    cases false e = e
    cases true e = absurd (let same : negsuc j ≡ negsuc n = (Decides-int_eq (negsuc j) (negsuc n)).0 e in let eq : j ≡ n = cc in ne eq)

-- one buffer gets its glyph, and its key is the only one that changes
fresh_buffer : (m : Layers) (cols rows : ℕ) (at : Places) (keys more : Buffers) (n : ℕ) (key : Key) (is : List Instr)
    → AreFor (negsuc n) is → HasGlyph (draw m is (negsuc n)) key → slice_get more n ≡ Some key
    → ((j : ℕ) → j ≢ n → slice_get more j ≡ slice_get keys j) → AreDrawn m cols rows at keys → AreDrawn (draw m is) cols rows at more
fresh_buffer m cols rows at keys more n key is all has got others a =
    let k = negsuc n in
    let stays : (j : ℤ) → int_eq j k ≡ false → m j ≡ draw m is j = λ j e. sym (drawn_there m k is j all e) in
    let screen : m (pos 0) ≡ draw m is (pos 0) = stays (pos 0) refl in
    record {
      width = ap (λ (l : Layer). l.width) (sym screen) ∙ a.width;
      height = ap (λ (l : Layer). l.height) (sym screen) ∙ a.height;
      pixels = λ x y c low high e. ap (λ (l : Layer). l.pixel x y) (sym screen) ∙ a.pixels x y c low high e;
      buffers = λ j. elim (cases_eq j n) as (λ _. IsAlike (draw m is (negsuc j)) (layer_of (slice_get more j))) [
        | inl e ↦ subst (λ (i : ℕ). IsAlike (draw m is (negsuc i)) (layer_of (slice_get more i))) (sym e) (subst (λ (o : Option Key). IsAlike (draw m is (negsuc n)) (layer_of o)) (sym got) has.look)
        | inr ne ↦ subst (λ (l : Layer). IsAlike l (layer_of (slice_get more j))) (stays (negsuc j) (other_buffer j n ne)) (subst (λ (o : Option Key). IsAlike (m (negsuc j)) (layer_of o)) (sym (others j ne)) (a.buffers j))
      ];
      others = λ j. subst (λ (l : Layer). IsAlike l empty_layer) (stays (pos (suc j)) refl) (a.others j);
      no_paths = closed;
    }
  where
    closed : HasNoPaths (draw m is)
    closed (pos j) = subst (λ (l : Layer). open_path l ≡ []) (sym (drawn_there m (negsuc n) is (pos j) all refl)) (a.no_paths (pos j))
    closed (negsuc j) = elim (cases_eq j n) as (λ _. open_path (draw m is (negsuc j)) ≡ []) [
      | inl e ↦ subst (λ (i : ℕ). open_path (draw m is (negsuc i)) ≡ []) (sym e) has.no_path
      | inr ne ↦ subst (λ (l : Layer). open_path l ≡ []) (sym (drawn_there m (negsuc n) is (negsuc j) all (other_buffer j n ne))) (a.no_paths (negsuc j))
    ]

anew_for : (k : ℤ) (key : Key) → AreFor k (Size k 8 16 ∷ covering k 0 0 key)
anew_for k key = (refl, covering_for k 0 0 key)

glyph_here : (m : Layers) (k : ℤ) (key : Key) (is : List Instr) → AreFor k is → HasGlyph (after (m k) is) key → HasGlyph (draw m is k) key
glyph_here m k key is all has = subst (λ (l : Layer). HasGlyph l key) (sym (drawn_here m k is all)) has

-- the size of a buffer that has a key
buffer_size : (keys : Buffers) (n : ℕ) → n < length keys → ((layer_of (slice_get keys n)).width ≡ 8) × ((layer_of (slice_get keys n)).height ≡ 16)
buffer_size [] n lt = absurd (omega arith)
buffer_size (k ∷ keys) zero lt = (refl, refl)
buffer_size (k ∷ keys) (suc n) lt = buffer_size keys n (omega (arith, lt))

pub buffered : (m : Layers) (cols rows : ℕ) (at : Places) (keys more : Buffers) (kind : SlotKind) (n : ℕ) (key : Key)
    → Gets keys key kind n more → AreDrawn m cols rows at keys → AreDrawn (draw m (painting kind (negsuc n) key)) cols rows at more
unfolding painting
buffered m cols rows at keys more Held n key g a = subst (AreDrawn m cols rows at) (sym g.1) a
buffered m cols rows at keys more Made n key g a =
    let is : List Instr = Size (negsuc n) 8 16 ∷ covering (negsuc n) 0 0 key in
    subst (AreDrawn (draw m is) cols rows at) (sym g.3)
    (fresh_buffer m cols rows at keys (keys ++ key ∷ []) n key is (anew_for (negsuc n) key)
    (glyph_here m (negsuc n) key is (anew_for (negsuc n) key) (covered_anew (m (negsuc n)) (negsuc n) key (a.no_paths (negsuc n))))
    (ap (slice_get (keys ++ key ∷ [])) g.1 ∙ get_added keys key)
    (λ j ne. get_before keys key j (λ e. ne (e ∙ sym g.1))) a)
buffered m cols rows at keys more Reused n key g a =
    let is : List Instr = covering (negsuc n) 0 0 key in
    let there : n < length keys = omega (arith, g.1, g.2) in
    let size = buffer_size keys n there in
    let was = a.buffers n in
    subst (AreDrawn (draw m is) cols rows at) (sym g.3)
    (fresh_buffer m cols rows at keys (slice_set keys n key) n key is (covering_for (negsuc n) 0 0 key)
    (glyph_here m (negsuc n) key is (covering_for (negsuc n) 0 0 key) (covered (m (negsuc n)) (negsuc n) key (was.width ∙ size.0) (was.height ∙ size.1) (a.no_paths (negsuc n))))
    (get_set keys n key there)
    (λ j ne. get_other keys n j key ne) a)

-- the key has that buffer afterwards
pub has_buffer : (keys more : Buffers) (kind : SlotKind) (n : ℕ) (key : Key) → Gets keys key kind n more → slice_get more n ≡ Some key
has_buffer keys more Held n key g = ap (λ (ks : Buffers). slice_get ks n) g.1 ∙ g.0
has_buffer keys more Made n key g = ap (λ (ks : Buffers). slice_get ks n) g.3 ∙ (ap (slice_get (keys ++ key ∷ [])) g.1 ∙ get_added keys key)
has_buffer keys more Reused n key g = ap (λ (ks : Buffers). slice_get ks n) g.3 ∙ get_set keys n key (omega (arith, g.1, g.2))
