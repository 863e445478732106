-- What a copy leaves of the visible layer: of one cell from its buffer, and of the whole layer when it scrolls.
use Rattle.std.proofs.Common.{◌≡◌, ◌≢◌, ℕ, zero, suc, ◌+◌, ◌-◌, ◌*◌, ◌/◌, ◌%◌, ◌<◌, ◌≤◌, ◌⊎◌, ℤ, pos, negsuc, [], Bool, true, false, ◌&&◌, ◌==◌, nat_le, nat_lt, if◌then◌else◌, refl, sym, ap, subst, ◌∙◌, arith, inl, inr}
use Rattle.std.specs.Prelude.{Option, Some, None, slice_get}
use Rattle.std.specs.Ordering.{int_eq}
use Rattle.std.proofs.lemmas.Bool.Decides.{nat_tests, Decides-int_eq}
use Rattle.std.proofs.lemmas.Nat.{div-mul-add, mod-mul-add, div-add-mod', same_from_place, rows as rows_fit}
use Rattle.gate_model.specs.declared.colour.Colour.{Colour}
use Rattle.gate_model.specs.declared.key.Key.{Key}
use Rattle.gate_model.specs.picture.KeyGrid.{KeyGrid}
use Rattle.gate_model.specs.picture.Glyphs.{glyph}
use Rattle.gate_model.specs.picture.Pictures.{key_at, picture}
use Rattle.gate_model.specs.picture.Layers.{Area, Layer, Layers, IsAlike, HasNoPaths, Same, copied, empty_layer, is_covered, is_in, open_path, over, play, source_pixel, with_layer}
use Rattle.gate_model.specs.picture.Buffers.{Buffers, AreLayers, layer_of, layers}
use Rattle.gate_model.specs.session.Cost.{old_row, old_key}
use Rattle.frame_draw.specs.Strokes.{cell_copy, scroll}
use Rattle.frame_draw.specs.Cells.{Places, AreDrawn}

-- ---- a change of the visible layer's pixels alone
pub other_layer : (j : ℕ) → int_eq (pos (suc j)) (pos 0) ≡ false
other_layer j = cases (int_eq (pos (suc j)) (pos 0)) refl
  where
    cases : (b : Bool) → int_eq (pos (suc j)) (pos 0) ≡ b → int_eq (pos (suc j)) (pos 0) ≡ false
    cases false e = e
    cases true e = absurd (let same : pos (suc j) ≡ pos 0 = (Decides-int_eq (pos (suc j)) (pos 0)).0 e in let wrong : suc j ≡ 0 = cc in omega (arith, wrong))

pub other_stays : (m : Layers) (l : Layer) (j : ℕ) → m (pos (suc j)) ≡ with_layer m (pos 0) l (pos (suc j))
other_stays m l j = sym (ap (λ (b : Bool). if b then l else m (pos (suc j))) (other_layer j))

pub repainted : (m : Layers) (cols rows : ℕ) (at next : Places) (keys : Buffers) (from : ℤ) (x y : ℕ) (target : Area) → AreDrawn m cols rows at keys
    → ((px py : ℕ) (key : Key) → px < 8 * cols → py < 16 * rows → next ((py / 16) * cols + px / 8) ≡ Some key
    → (copied (m from) x y (m (pos 0)) target).pixel px py ≡ Some (glyph key (px % 8) (py % 16)))
    → AreDrawn (with_layer m (pos 0) (copied (m from) x y (m (pos 0)) target)) cols rows next keys
repainted m cols rows at next keys from x y target a new = record {
  width = a.width;
  height = a.height;
  pixels = new;
  buffers = a.buffers;
  others = λ j. subst (λ (l : Layer). IsAlike l empty_layer) (other_stays m (copied (m from) x y (m (pos 0)) target) j) (a.others j);
  no_paths = closed;
}
  where
    closed : HasNoPaths (with_layer m (pos 0) (copied (m from) x y (m (pos 0)) target))
    closed (pos zero) = a.no_paths (pos 0)
    closed (pos (suc j)) = subst (λ (l : Layer). open_path l ≡ []) (other_stays m (copied (m from) x y (m (pos 0)) target) j) (a.no_paths (pos (suc j)))
    closed (negsuc j) = a.no_paths (negsuc j)

pub within : (l : Layer) (w h x y : ℕ) → l.width ≡ w → l.height ≡ h → x < w → y < h → is_in x y l ≡ true
within l w h x y is_w is_h in_x in_y = grind (arith, nat_tests)

-- ---- one cell
across : (x px : ℕ) → (nat_le (8 * x) px && nat_lt px (8 * x + 8)) ≡ (px / 8 == x)
across x px = grind (arith, nat_tests)

down : (y py : ℕ) → (nat_le (16 * y) py && nat_lt py (16 * y + 16)) ≡ (py / 16 == y)
down y py = grind (arith, nat_tests)

meet : (a b c d e f : Bool) → (a && b) ≡ e → (c && d) ≡ f → (((a && b) && c) && d) ≡ (e && f)
meet a b c d e f p q = grind arith

abbrev cell : ℕ → ℕ → Area
cell x y = record { x = 8 * x; y = 16 * y; width = 8; height = 16 }

covers_cell : (x y px py : ℕ) → is_covered (cell x y) px py ≡ ((px / 8 == x) && (py / 16 == y))
covers_cell x y px py =
    meet (nat_le (8 * x) px) (nat_lt px (8 * x + 8)) (nat_le (16 * y) py) (nat_lt py (16 * y + 16)) (px / 8 == x) (py / 16 == y) (across x px) (down y py)

-- a pixel of a layer that looks like a glyph
glyph_pixel : (l : Layer) (key : Key) (n : ℕ) (keys : Buffers) → slice_get keys n ≡ Some key → IsAlike l (layer_of (slice_get keys n)) → (x y : ℕ) → x < 8 → y < 16
    → source_pixel l x y ≡ Some (glyph key x y)
glyph_pixel l key n keys got alike x y in_x in_y =
    let look : IsAlike l (layer_of (Some key)) = subst (λ (o : Option Key). IsAlike l (layer_of o)) got alike in
    let w : l.width ≡ 8 = look.width in
    let h : l.height ≡ 16 = look.height in
    ap (λ (b : Bool). if b then l.pixel x y else None) (within l 8 16 x y w h in_x in_y) ∙ look.pixels x y (omega (arith, w, in_x)) (omega (arith, h, in_y))

from_eq : (a b : ℕ) → (a == b) ≡ true → a ≡ b
from_eq a b e = grind (arith, nat_tests)

both : (a b : Bool) → (a && b) ≡ true → (a ≡ true) × (b ≡ true)
both true b e = (refl, e)
both false b e = absurd (cc)

some_is : (k key : Key) → Some k ≡ Some key → k ≡ key
some_is k key e = cc

pub below_row : (px cols : ℕ) → px < 8 * cols → px / 8 < cols
below_row px cols lt = omega arith

-- the pixel of a layer over which a source was copied
pub covered_pixel : (s l : Layer) (x y : ℕ) (target : Area) (px py : ℕ) (c : Colour) → (is_in px py l && is_covered target px py) ≡ true
    → source_pixel s (x + (px - target.x)) (y + (py - target.y)) ≡ Some c → (copied s x y l target).pixel px py ≡ Some c
covered_pixel s l x y target px py c e f =
    ap (λ (b : Bool). if b then over (source_pixel s (x + (px - target.x)) (y + (py - target.y))) (l.pixel px py) else l.pixel px py) e
    ∙ ap (λ (o : Option Colour). over o (l.pixel px py)) f

pub other_pixel : (s l : Layer) (x y : ℕ) (target : Area) (px py : ℕ) → is_covered target px py ≡ false → (copied s x y l target).pixel px py ≡ l.pixel px py
other_pixel s l x y target px py e = cases (is_in px py l) (is_covered target px py) e
  where
    cases : (b c : Bool) → c ≡ false → (if b && c then over (source_pixel s (x + (px - target.x)) (y + (py - target.y))) (l.pixel px py) else l.pixel px py) ≡ l.pixel px py
    cases true false f = refl
    cases false c f = refl
    cases true true f = absurd (cc)

pub both_true : (a b : Bool) → a ≡ true → b ≡ true → (a && b) ≡ true
both_true true true e f = refl
both_true true false e f = absurd (cc)
both_true false b e f = absurd (cc)

pub cell_copied : (m : Layers) (cols rows : ℕ) (at next : Places) (keys : Buffers) (n x y : ℕ) (key : Key) → x < cols → y < rows → slice_get keys n ≡ Some key
    → ((k : Key) → next (y * cols + x) ≡ Some k → k ≡ key) → ((p : ℕ) (k : Key) → p ≢ y * cols + x → next p ≡ Some k → at p ≡ Some k)
    → AreDrawn m cols rows at keys → AreDrawn (play m (cell_copy (negsuc n) x y)) cols rows next keys
unfolding cell_copy
cell_copied m cols rows at next keys n x y key in_x in_y got here there a =
    repainted m cols rows at next keys (negsuc n) 0 0 (cell x y) a
    (λ px py k low high e. cases px py k low high e (is_covered (cell x y) px py) refl)
  where
    cases : (px py : ℕ) (k : Key) → px < 8 * cols → py < 16 * rows → next ((py / 16) * cols + px / 8) ≡ Some k
        → (b : Bool) → is_covered (cell x y) px py ≡ b
        → (copied (m (negsuc n)) 0 0 (m (pos 0)) (cell x y)).pixel px py ≡ Some (glyph k (px % 8) (py % 16))
    cases px py k low high e true c =
        let tests = both (px / 8 == x) (py / 16 == y) (sym (covers_cell x y px py) ∙ c) in
        let is_x : px / 8 ≡ x = from_eq (px / 8) x tests.0 in
        let is_y : py / 16 ≡ y = from_eq (py / 16) y tests.1 in
        let right : 0 + (px - 8 * x) ≡ px % 8 = omega (arith, is_x) in
        let lower : 0 + (py - 16 * y) ≡ py % 16 = omega (arith, is_y) in
        let same : k ≡ key = here k (ap (λ (i : ℕ). next (i * cols + x)) (sym is_y) ∙ (ap (λ (i : ℕ). next ((py / 16) * cols + i)) (sym is_x) ∙ e)) in
        covered_pixel (m (negsuc n)) (m (pos 0)) 0 0 (cell x y) px py (glyph k (px % 8) (py % 16))
        (both_true _ _ (within (m (pos 0)) (8 * cols) (16 * rows) px py a.width a.height low high) c)
        (ap (λ (i : ℕ). source_pixel (m (negsuc n)) i (0 + (py - 16 * y))) right
        ∙ (ap (λ (i : ℕ). source_pixel (m (negsuc n)) (px % 8) i) lower
        ∙ (glyph_pixel (m (negsuc n)) key n keys got (a.buffers n) (px % 8) (py % 16) (omega arith) (omega arith)
        ∙ ap (λ (q : Key). Some (glyph q (px % 8) (py % 16))) (sym same))))
    cases px py k low high e false c =
        other_pixel (m (negsuc n)) (m (pos 0)) 0 0 (cell x y) px py c
        ∙ a.pixels px py k low high (there ((py / 16) * cols + px / 8) k elsewhere e)
      where
        elsewhere : (py / 16) * cols + px / 8 ≢ y * cols + x
        elsewhere f =
            let p = same_from_place (py / 16) (px / 8) y x cols (below_row px cols low) in_x f in
            absurd (let wrong : is_covered (cell x y) px py ≡ true = covers_cell x y px py ∙ both_true (px / 8 == x) (py / 16 == y) (grind (arith, nat_tests)) (grind (arith, nat_tests)) in cc)

-- ---- places and pixels
picture_at : (s : KeyGrid) (x y : ℕ) → picture s x y ≡ glyph (key_at s.keys ((y / 16) * s.cols + x / 8)) (x % 8) (y % 16)
unfolding picture
picture_at s x y = refl

pub place_below : (y x rows cols : ℕ) → y < rows → x < cols → y * cols + x < rows * cols
place_below y x rows cols in_y in_x = grind (arith, rows_fit)

-- ---- the whole layer, moved up
covers_above : (px py w h : ℕ) → px < w → is_covered (record { x = 0; y = 0; width = w; height = h }) px py ≡ nat_lt py h
covers_above px py w h low = grind (arith, nat_tests)

old_at : (old : KeyGrid) (shift y x : ℕ) → x < old.cols → old_key old shift (y * old.cols + x) ≡ key_at old.keys (old_row shift old.rows y * old.cols + x)
old_at old shift y x in_x =
    ap (λ (i : ℕ). key_at old.keys (old_row shift old.rows i * old.cols + (y * old.cols + x) % old.cols)) (div-mul-add y old.cols x in_x)
    ∙ ap (λ (i : ℕ). key_at old.keys (old_row shift old.rows y * old.cols + i)) (mod-mul-add y old.cols x in_x)

row_above : (shift rows y : ℕ) → y + shift < rows → old_row shift rows y ≡ y + shift
row_above shift rows y lt = ap (λ (b : Bool). if b then y + shift else y) (both_true (nat_lt shift rows) (nat_lt (y + shift) rows) (grind (arith, nat_tests)) (grind (arith, nat_tests)))

row_itself : (shift rows y : ℕ) → rows ≤ y + shift → old_row shift rows y ≡ y
row_itself shift rows y le = cases (nat_lt shift rows) (nat_lt (y + shift) rows) (grind (arith, nat_tests))
  where
    cases : (b c : Bool) → c ≡ false → (if b && c then y + shift else y) ≡ y
    cases true false e = refl
    cases false c e = refl
    cases true true e = absurd (cc)

-- where so many lines were scrolled up, each place has the key that stands there then
pub scrolled : (m : Layers) (old : KeyGrid) (keys : Buffers) (shift : ℕ) → shift < old.rows
    → AreDrawn m old.cols old.rows (λ p. Some (key_at old.keys p)) keys
    → AreDrawn (play m (scroll old.cols old.rows shift)) old.cols old.rows (λ p. Some (old_key old shift p)) keys
unfolding scroll
scrolled m old keys shift some a =
    repainted m old.cols old.rows (λ p. Some (key_at old.keys p)) (λ p. Some (old_key old shift p)) keys (pos 0) 0 (16 * shift)
    (record { x = 0; y = 0; width = 8 * old.cols; height = 16 * (old.rows - shift) }) a
    (λ px py k low high e. cases px py k low high e (nat_lt py (16 * (old.rows - shift))) refl)
  where
    same_pixel : (px py : ℕ) → (m (pos 0)).pixel (0 + (px - 0)) (16 * shift + (py - 0)) ≡ (m (pos 0)).pixel px (16 * shift + py)
    same_pixel px py =
        let first : 0 + (px - 0) ≡ px = omega arith in
        let second : 16 * shift + (py - 0) ≡ 16 * shift + py = omega arith in
        ap (λ (i : ℕ). (m (pos 0)).pixel i (16 * shift + (py - 0))) first ∙ ap (λ (i : ℕ). (m (pos 0)).pixel px i) second

    cases : (px py : ℕ) (k : Key) → px < 8 * old.cols → py < 16 * old.rows → Some (old_key old shift ((py / 16) * old.cols + px / 8)) ≡ Some k
        → (b : Bool) → nat_lt py (16 * (old.rows - shift)) ≡ b
        → (copied (m (pos 0)) 0 (16 * shift) (m (pos 0)) (record { x = 0; y = 0; width = 8 * old.cols; height = 16 * (old.rows - shift) })).pixel px py ≡ Some (glyph k (px % 8) (py % 16))
    cases px py k low high e true c =
        let target : Area = record { x = 0; y = 0; width = 8 * old.cols; height = 16 * (old.rows - shift) } in
        let w : (m (pos 0)).width ≡ 8 * old.cols = a.width in
        let h : (m (pos 0)).height ≡ 16 * old.rows = a.height in
        let above : py < 16 * (old.rows - shift) = grind (arith, nat_tests) in
        let inside : 16 * shift + py < 16 * old.rows = omega (arith, above) in
        let row : (16 * shift + py) / 16 ≡ py / 16 + shift = omega arith in
        let line : (16 * shift + py) % 16 ≡ py % 16 = omega arith in
        let was : key_at old.keys (((16 * shift + py) / 16) * old.cols + px / 8) ≡ k =
        ap (λ (i : ℕ). key_at old.keys (i * old.cols + px / 8)) (row ∙ sym (row_above shift old.rows (py / 16) (omega (arith, above))))
        ∙ (sym (old_at old shift (py / 16) (px / 8) (below_row px old.cols low))
        ∙ some_is (old_key old shift ((py / 16) * old.cols + px / 8)) k e) in
        covered_pixel (m (pos 0)) (m (pos 0)) 0 (16 * shift) target px py (glyph k (px % 8) (py % 16))
        (both_true _ _ (within (m (pos 0)) (8 * old.cols) (16 * old.rows) px py w h low high) (covers_above px py (8 * old.cols) (16 * (old.rows - shift)) low ∙ c))
        (ap (λ (b : Bool). if b then (m (pos 0)).pixel (0 + (px - 0)) (16 * shift + (py - 0)) else None) (within (m (pos 0)) (8 * old.cols) (16 * old.rows) (0 + (px - 0)) (16 * shift + (py - 0)) w h (omega (arith, low)) (omega (arith, inside)))
        ∙ (same_pixel px py
        ∙ (a.pixels px (16 * shift + py) k low inside (ap (λ (q : Key). Some q) was)
        ∙ ap (λ (i : ℕ). Some (glyph k (px % 8) i)) line)))
    cases px py k low high e false c =
        let below : 16 * (old.rows - shift) ≤ py = grind (arith, nat_tests) in
        other_pixel (m (pos 0)) (m (pos 0)) 0 (16 * shift) (record { x = 0; y = 0; width = 8 * old.cols; height = 16 * (old.rows - shift) }) px py
        (covers_above px py (8 * old.cols) (16 * (old.rows - shift)) low ∙ c)
        ∙ a.pixels px py k low high
        (ap (λ (i : ℕ). Some (key_at old.keys (i * old.cols + px / 8))) (sym (row_itself shift old.rows (py / 16) (omega (arith, below))))
        ∙ (ap (λ (q : Key). Some q) (sym (old_at old shift (py / 16) (px / 8) (below_row px old.cols low))) ∙ e))

row_still : (shift rows y : ℕ) → (shift ≡ 0) ⊎ (rows ≤ shift) → old_row shift rows y ≡ y
row_still shift rows y (inl e) = cases (nat_lt shift rows && nat_lt (y + shift) rows)
  where
    cases : (b : Bool) → (if b then y + shift else y) ≡ y
    cases true = omega (arith, e)
    cases false = refl
row_still shift rows y (inr le) = row_itself shift rows y (omega (arith, le))

-- where nothing moves, it is the key of the place itself
pub still : (old : KeyGrid) (shift p : ℕ) → (shift ≡ 0) ⊎ (old.rows ≤ shift) → old_key old shift p ≡ key_at old.keys p
still old shift p c =
    ap (λ (i : ℕ). key_at old.keys (i * old.cols + p % old.cols)) (row_still shift old.rows (p / old.cols) c)
    ∙ ap (key_at old.keys) (div-add-mod' p old.cols)

-- ---- the layers of a screen and buffers, before and after
pub from_layers : (m : Layers) (s : KeyGrid) (keys : Buffers) → AreLayers m s keys → AreDrawn m s.cols s.rows (λ p. Some (key_at s.keys p)) keys
from_layers m s keys a =
    let l = a.same (pos 0) in
    let w : (m (pos 0)).width ≡ 8 * s.cols = l.width in
    let h : (m (pos 0)).height ≡ 16 * s.rows = l.height in
    record {
      width = w;
      height = h;
      pixels = λ x y key low high e. l.pixels x y (omega (arith, w, low)) (omega (arith, h, high)) ∙ (picture_is s x y ∙ ap (λ (q : Key). Some (glyph q (x % 8) (y % 16))) (some_is (key_at s.keys ((y / 16) * s.cols + x / 8)) key e));
      buffers = λ n. a.same (negsuc n);
      others = λ n. a.same (pos (suc n));
      no_paths = a.no_paths;
    }
  where
    picture_is : (s : KeyGrid) (x y : ℕ) → Some (picture s x y) ≡ Some (glyph (key_at s.keys ((y / 16) * s.cols + x / 8)) (x % 8) (y % 16))
    picture_is s x y = ap (λ (c : Colour). Some c) (picture_at s x y)

pub to_layers : (m : Layers) (s : KeyGrid) (at : Places) (keys : Buffers) → ((p : ℕ) → p < s.rows * s.cols → at p ≡ Some (key_at s.keys p)) → AreDrawn m s.cols s.rows at keys → AreLayers m s keys
to_layers m s at keys known a = record { same = alike; no_paths = a.no_paths }
  where
    alike : Same m (layers s keys)
    alike (pos zero) =
        let w : (m (pos 0)).width ≡ 8 * s.cols = a.width in
        let h : (m (pos 0)).height ≡ 16 * s.rows = a.height in
        record {
          width = w;
          height = h;
          pixels = λ x y low high.
              let in_x : x < 8 * s.cols = omega (arith, w, low) in
              let in_y : y < 16 * s.rows = omega (arith, h, high) in
              a.pixels x y (key_at s.keys ((y / 16) * s.cols + x / 8)) in_x in_y (known ((y / 16) * s.cols + x / 8) (place_below (y / 16) (x / 8) s.rows s.cols (omega (arith, in_y)) (omega (arith, in_x))))
              ∙ ap (λ (c : Colour). Some c) (sym (picture_at s x y));
        }
    alike (pos (suc n)) = a.others n
    alike (negsuc n) = a.buffers n
