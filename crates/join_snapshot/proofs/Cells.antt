-- A cell that is painted over the visible layer: its place shows the key, and every other place and layer stays.
use Rattle.std.proofs.Common.{◌≡◌, ◌≢◌, ℕ, zero, suc, ◌+◌, ◌-◌, ◌*◌, ◌/◌, ◌%◌, ◌<◌, ◌≤◌, pos, negsuc, List, [], length, Bool, true, false, nat_lt, if◌then◌else◌, refl, sym, ap, subst, ◌∙◌, arith, inl, inr}
use Rattle.std.specs.Prelude.{Option, Some, None, slice_get}
use Rattle.std.specs.Ordering.{int_eq}
use Rattle.std.proofs.lemmas.Bool.{cases_eq}
use Rattle.std.proofs.lemmas.Bool.Decides.{nat_tests, Decides-int_eq}
use Rattle.std.proofs.lemmas.Nat.{div-add-mod', div_below, same_from_place}
use Rattle.std.proofs.Math.Nat.{mod-lt}
use Rattle.gate_model.specs.declared.instr.Instr.{Instr}
use Rattle.gate_model.specs.declared.key.Key.{Key}
use Rattle.gate_model.specs.picture.KeyGrid.{KeyGrid}
use Rattle.gate_model.specs.picture.Glyphs.{glyph}
use Rattle.gate_model.specs.picture.Pictures.{key_at}
use Rattle.gate_model.specs.picture.Layers.{Layer, Layers, IsAlike, HasNoPaths, draw, empty_layer, is_covered, open_path}
use Rattle.gate_model.specs.picture.Buffers.{Buffers, layer_of}
use Rattle.gate_model.proofs.Drawing.{draw-append}
use Rattle.frame_draw.specs.Cells.{Places, AreDrawn, mixed}
use Rattle.frame_draw.specs.Along.{is_on}
use Rattle.frame_draw.specs.Leads.{known}
use Rattle.glyph_strokes.proofs.Filled.{IsShowing, bounds, cell_at, covered_at, covered_shows, covering_for, drawn_here, drawn_there, glyph_pixel}
use Rattle.frame_draw.proofs.Copied.{cell_copied, place_below}
use Rattle.glyph_strokes.specs.Strokes.{covering}
use Rattle.join_snapshot.specs.Snapshot.{AddsCells, AddsPicture, AddsPlace, IsCell}

pub other_layer : (j : ℕ) → int_eq (pos (suc j)) (pos 0) ≡ false
other_layer j = cases (int_eq (pos (suc j)) (pos 0)) refl
  where
    cases : (b : Bool) → int_eq (pos (suc j)) (pos 0) ≡ b → int_eq (pos (suc j)) (pos 0) ≡ false
    cases false e = e
    cases true e = absurd (let same : pos (suc j) ≡ pos 0 = (Decides-int_eq (pos (suc j)) (pos 0)).0 e in let wrong : suc j ≡ 0 = cc in omega (arith, wrong))

below_row : (px cols : ℕ) → px < 8 * cols → px / 8 < cols
below_row px cols lt = omega arith

-- a pixel of the cell at column x of row y
in_place : (x y px py : ℕ) → px / 8 ≡ x → py / 16 ≡ y → is_covered (cell_at (8 * x) (16 * y)) px py ≡ true
in_place x y px py e f = covered_at (8 * x) (16 * y) px py (omega (arith, e)) (omega (arith, e)) (omega (arith, f)) (omega (arith, f))

module _ (m : Layers) (cols rows : ℕ) (at next : Places) (keys : Buffers) (x y : ℕ) (key : Key) (in_x : x < cols)
    (here : (k : Key) → next (y * cols + x) ≡ Some k → k ≡ key) (there : (p : ℕ) (k : Key) → p ≢ y * cols + x → next p ≡ Some k → at p ≡ Some k)
    (a : AreDrawn m cols rows at keys) where
  abbrev is : List Instr
  is = covering (pos 0) (8 * x) (16 * y) key

  shows : IsShowing (draw m is (pos 0)) (8 * cols) (16 * rows) (glyph_pixel (8 * x) (16 * y) key (m (pos 0)).pixel)
  shows =
      subst (λ (l : Layer). IsShowing l (8 * cols) (16 * rows) (glyph_pixel (8 * x) (16 * y) key (m (pos 0)).pixel)) (sym (drawn_here m (pos 0) is (covering_for (pos 0) (8 * x) (16 * y) key)))
      (covered_shows (m (pos 0)) (pos 0) (8 * x) (16 * y) key (8 * cols) (16 * rows) (m (pos 0)).pixel
      record { width = a.width; height = a.height; no_path = a.no_paths (pos 0); pixels = λ px py low high. refl })

  elsewhere : (px py : ℕ) → px < 8 * cols → is_covered (cell_at (8 * x) (16 * y)) px py ≡ false → (py / 16) * cols + px / 8 ≢ y * cols + x
  elsewhere px py low c e =
      let p = same_from_place (py / 16) (px / 8) y x cols (below_row px cols low) in_x e in
      absurd (let yes : is_covered (cell_at (8 * x) (16 * y)) px py ≡ true = in_place x y px py p.1 p.0 in cc)

  new_pixel : (px py : ℕ) (k : Key) → px < 8 * cols → py < 16 * rows → next ((py / 16) * cols + px / 8) ≡ Some k
      → (b : Bool) → is_covered (cell_at (8 * x) (16 * y)) px py ≡ b
      → glyph_pixel (8 * x) (16 * y) key (m (pos 0)).pixel px py ≡ Some (glyph k (px % 8) (py % 16))
  new_pixel px py k low high e true c =
      let b = bounds (cell_at (8 * x) (16 * y)) px py c in
      let is_x : px / 8 ≡ x = omega (arith, b.left_of, b.right_of) in
      let is_y : py / 16 ≡ y = omega (arith, b.above, b.below) in
      let right : px - 8 * x ≡ px % 8 = omega (arith, is_x) in
      let lower : py - 16 * y ≡ py % 16 = omega (arith, is_y) in
      let same : k ≡ key = here k (ap (λ (i : ℕ). next (i * cols + x)) (sym is_y) ∙ (ap (λ (i : ℕ). next ((py / 16) * cols + i)) (sym is_x) ∙ e)) in
      ap (λ (t : Bool). if t then Some (glyph key (px - 8 * x) (py - 16 * y)) else (m (pos 0)).pixel px py) c
      ∙ (ap (λ (i : ℕ). Some (glyph key i (py - 16 * y))) right
      ∙ (ap (λ (i : ℕ). Some (glyph key (px % 8) i)) lower
      ∙ ap (λ (q : Key). Some (glyph q (px % 8) (py % 16))) (sym same)))
  new_pixel px py k low high e false c =
      ap (λ (t : Bool). if t then Some (glyph key (px - 8 * x) (py - 16 * y)) else (m (pos 0)).pixel px py) c
      ∙ a.pixels px py k low high (there ((py / 16) * cols + px / 8) k (elsewhere px py low c) e)

  closed : HasNoPaths (draw m is)
  closed (pos zero) = shows.no_path
  closed (pos (suc j)) = subst (λ (l : Layer). open_path l ≡ []) (sym (drawn_there m (pos 0) is (pos (suc j)) (covering_for (pos 0) (8 * x) (16 * y) key) (other_layer j))) (a.no_paths (pos (suc j)))
  closed (negsuc j) = subst (λ (l : Layer). open_path l ≡ []) (sym (drawn_there m (pos 0) is (negsuc j) (covering_for (pos 0) (8 * x) (16 * y) key) refl)) (a.no_paths (negsuc j))

  pub cell_painted : AreDrawn (draw m is) cols rows next keys
  cell_painted = record {
    width = shows.width;
    height = shows.height;
    pixels = λ px py k low high e. shows.pixels px py low high ∙ new_pixel px py k low high e (is_covered (cell_at (8 * x) (16 * y)) px py) refl;
    buffers = λ n. subst (λ (l : Layer). IsAlike l (layer_of (slice_get keys n))) (sym (drawn_there m (pos 0) is (negsuc n) (covering_for (pos 0) (8 * x) (16 * y) key) refl)) (a.buffers n);
    others = λ n. subst (λ (l : Layer). IsAlike l empty_layer) (sym (drawn_there m (pos 0) is (pos (suc n)) (covering_for (pos 0) (8 * x) (16 * y) key) (other_layer n))) (a.others n);
    no_paths = closed;
  }

-- ---- place by place
-- the first places have their key, and so have the others that aren't wanted
abbrev pub below : KeyGrid → List Bool → ℕ → Places
below now wanted count = mixed now (known now wanted) count

chosen : (b c : Bool) (k : Key) (o : Option Key) → b ≡ c → (if b then Some k else o) ≡ (if c then Some k else o)
chosen b c k o e = ap (λ (t : Bool). if t then Some k else o) e

pub below_there : (now : KeyGrid) (wanted : List Bool) (count p : ℕ) → p < count → below now wanted count p ≡ Some (key_at now.keys p)
below_there now wanted count p lt = chosen (nat_lt p count) true (key_at now.keys p) (known now wanted p) (grind (arith, nat_tests))

pub below_none : (now : KeyGrid) (wanted : List Bool) (p : ℕ) → below now wanted 0 p ≡ known now wanted p
below_none now wanted p = chosen (nat_lt p 0) false (key_at now.keys p) (known now wanted p) (grind (arith, nat_tests))

below_here : (now : KeyGrid) (wanted : List Bool) (place : ℕ) → below now wanted place place ≡ known now wanted place
below_here now wanted place = chosen (nat_lt place place) false (key_at now.keys place) (known now wanted place) (grind (arith, nat_tests))

below_other : (now : KeyGrid) (wanted : List Bool) (place p : ℕ) → p ≢ place → below now wanted (suc place) p ≡ below now wanted place p
below_other now wanted place p ne = chosen (nat_lt p (suc place)) (nat_lt p place) (key_at now.keys p) (known now wanted p) (same p place ne)
  where
    same : (p place : ℕ) → p ≢ place → nat_lt p (suc place) ≡ nat_lt p place
    same p place ne = grind (arith, nat_tests)

some_is : (k key : Key) → Some k ≡ Some key → k ≡ key
some_is k key e = cc

row_below : (n cols rows : ℕ) → 1 ≤ cols → n < rows * cols → n / cols < rows
row_below n cols rows some lt = div_below n cols rows some lt

knows : (m : Layers) (cols rows : ℕ) (at next : Places) (keys : Buffers) → ((p : ℕ) → next p ≡ at p) → AreDrawn m cols rows at keys → AreDrawn m cols rows next keys
knows m cols rows at next keys same a = record {
  width = a.width;
  height = a.height;
  pixels = λ x y k low high e. a.pixels x y k low high (sym (same ((y / 16) * cols + x / 8)) ∙ e);
  buffers = a.buffers;
  others = a.others;
  no_paths = a.no_paths;
}

-- one more place
module _ (m : Layers) (now : KeyGrid) (wanted : List Bool) (keys : Buffers) (n : ℕ) (some : 1 ≤ now.cols) (lt : n < now.rows * now.cols) where
  place_is : (n / now.cols) * now.cols + n % now.cols ≡ n
  place_is = div-add-mod' n now.cols

  here_is : (k : Key) → below now wanted (suc n) ((n / now.cols) * now.cols + n % now.cols) ≡ Some k → k ≡ key_at now.keys n
  here_is k e = sym (some_is (key_at now.keys n) k (sym (below_there now wanted (suc n) n (omega arith)) ∙ (ap (below now wanted (suc n)) (sym place_is) ∙ e)))

  there_is : (p : ℕ) (k : Key) → p ≢ (n / now.cols) * now.cols + n % now.cols → below now wanted (suc n) p ≡ Some k → below now wanted n p ≡ Some k
  there_is p k ne e = sym (below_other now wanted n p (λ f. ne (f ∙ sym place_is))) ∙ e

  one_more : (strokes : List Instr) → IsCell keys (key_at now.keys n) (n % now.cols) (n / now.cols) strokes
      → AreDrawn m now.cols now.rows (below now wanted n) keys → AreDrawn (draw m strokes) now.cols now.rows (below now wanted (suc n)) keys
  one_more strokes (inl copy) a =
      subst (λ (xs : List Instr). AreDrawn (draw m xs) now.cols now.rows (below now wanted (suc n)) keys) (sym copy.3)
      (cell_copied m now.cols now.rows (below now wanted n) (below now wanted (suc n)) keys copy.0 (n % now.cols) (n / now.cols) (key_at now.keys n) (mod-lt n some) (row_below n now.cols now.rows some lt) copy.2 here_is there_is a)
  one_more strokes (inr drawn) a =
      subst (λ (xs : List Instr). AreDrawn (draw m xs) now.cols now.rows (below now wanted (suc n)) keys) (sym drawn)
      (cell_painted m now.cols now.rows (below now wanted n) (below now wanted (suc n)) keys (n % now.cols) (n / now.cols) (key_at now.keys n) (mod-lt n some) here_is there_is a)

  -- a place that isn't wanted has its key
  none_more : is_on wanted n ≡ false → AreDrawn m now.cols now.rows (below now wanted n) keys → AreDrawn m now.cols now.rows (below now wanted (suc n)) keys
  none_more off a = knows m now.cols now.rows (below now wanted n) (below now wanted (suc n)) keys same a
    where
      known_here : known now wanted n ≡ Some (key_at now.keys n)
      known_here = ap (λ (b : Bool). if b then None else Some (key_at now.keys n)) off

      same : (p : ℕ) → below now wanted (suc n) p ≡ below now wanted n p
      same p = elim (cases_eq p n) as (λ _. below now wanted (suc n) p ≡ below now wanted n p) [
        | inl e ↦ ap (below now wanted (suc n)) e ∙ (below_there now wanted (suc n) n (omega arith) ∙ (sym known_here ∙ (sym (below_here now wanted n) ∙ ap (below now wanted n) (sym e))))
        | inr ne ↦ below_other now wanted n p ne
      ]

pub cells_drawn : (m : Layers) (now : KeyGrid) (wanted : List Bool) (keys : Buffers) (list longer : List Instr) (n : ℕ) → 1 ≤ now.cols → n ≤ now.rows * now.cols → AddsCells keys now wanted list n longer
    → AreDrawn (draw m list) now.cols now.rows (below now wanted 0) keys → AreDrawn (draw m longer) now.cols now.rows (below now wanted n) keys
cells_drawn m now wanted keys list longer zero some le adds a = subst (λ (xs : List Instr). AreDrawn (draw m xs) now.cols now.rows (below now wanted 0) keys) (sym adds) a
cells_drawn m now wanted keys list longer (suc n) some le adds a =
    place (is_on wanted n) refl adds.2 (cells_drawn m now wanted keys list adds.0 n some (omega (arith, le)) adds.1 a)
  where
    place : (on : Bool) → is_on wanted n ≡ on → AddsPlace keys (key_at now.keys n) (n % now.cols) (n / now.cols) on adds.0 longer
        → AreDrawn (draw m adds.0) now.cols now.rows (below now wanted n) keys → AreDrawn (draw m longer) now.cols now.rows (below now wanted (suc n)) keys
    place true e c b =
        subst (λ (l : Layers). AreDrawn l now.cols now.rows (below now wanted (suc n)) keys) (sym (ap (draw m) c.added ∙ draw-append m adds.0 c.strokes))
        (one_more (draw m adds.0) now wanted keys n some (omega (arith, le)) c.strokes c.cell b)
    place false e c b =
        subst (λ (xs : List Instr). AreDrawn (draw m xs) now.cols now.rows (below now wanted (suc n)) keys) (sym c)
        (none_more (draw m adds.0) now wanted keys n some (omega (arith, le)) e b)

-- the cells after the strips
pub picture_drawn : (m : Layers) (now : KeyGrid) (wanted : List Bool) (keys : Buffers) (list longer : List Instr) → 1 ≤ now.cols → length now.keys ≡ now.rows * now.cols → AddsPicture keys now wanted list longer
    → AreDrawn (draw m list) now.cols now.rows (known now wanted) keys → AreDrawn (draw m longer) now.cols now.rows (below now wanted (length now.keys)) keys
picture_drawn m now wanted keys list longer some full p a =
    knows_all (draw m longer) (below now p.later (length now.keys)) (below now wanted (length now.keys))
    (λ i lt. below_there now wanted (length now.keys) i (omega (arith, lt, full)) ∙ sym (below_there now p.later (length now.keys) i (omega (arith, lt, full))))
    (cells_drawn m now p.later keys p.between longer (length now.keys) some (omega (arith, full)) p.added
    (knows (draw m p.between) now.cols now.rows (known now p.later) (below now p.later 0) keys (below_none now p.later)
    (subst (λ (l : Layers). AreDrawn l now.cols now.rows (known now p.later) keys) (sym (ap (draw m) p.led.added ∙ draw-append m list p.led.more)) (p.led.layers (draw m list) keys a))))
  where
    knows_all : (n : Layers) (at next : Places) → ((i : ℕ) → i < now.rows * now.cols → next i ≡ at i) → AreDrawn n now.cols now.rows at keys → AreDrawn n now.cols now.rows next keys
    knows_all n at next same b = record {
      width = b.width;
      height = b.height;
      pixels = λ x y k low high e. b.pixels x y k low high (sym (same ((y / 16) * now.cols + x / 8) (place_below (y / 16) (x / 8) now.rows now.cols (omega (arith, high)) (omega (arith, low)))) ∙ e);
      buffers = b.buffers;
      others = b.others;
      no_paths = b.no_paths;
    }
