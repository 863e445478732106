-- What a key's paper and glyph leave of a layer, painted over the cell that begins at some pixel: the key's glyph there, and elsewhere what was there.
use Rattle.std.proofs.Common.{◌≡◌, ℕ, ◌+◌, ◌-◌, ◌<◌, ◌≤◌, ℤ, List, [], ◌∷◌, ◌++◌, map, Bool, true, false, not, ◌&&◌, ◌||◌, ◌==◌, nat_le, nat_lt, if◌then◌else◌, Option, Some, refl, sym, ap, subst, ◌∙◌, arith}
use Rattle.std.specs.List.{list_any, All}
use Rattle.std.specs.Ordering.{int_eq}
use Rattle.std.proofs.lemmas.Bool.Decides.{nat_tests, Decides-int_eq}
use Rattle.std.proofs.lemmas.List.Elements.{All-head, All-tail}
use Rattle.gate_model.specs.declared.colour.Colour.{Colour}
use Rattle.gate_model.specs.declared.instr.Instr.{Instr}
use Rattle.gate_model.specs.declared.instr.Instr.TheVariants.{Size, Rect, Cfill, Copy, Sync, Disconnect, Error}
use Rattle.gate_model.specs.declared.key.Key.{Key}
use Rattle.glyph_table.specs.declared.patch.Patch.{Patch}
use Rattle.gate_model.specs.picture.Palette.{colour_of}
use Rattle.gate_model.specs.picture.Glyphs.{glyph, lit}
use Rattle.glyph_table.specs.GlyphRects.{IsInside, column_rects, columns_rects, covers, rects, runs_within}
use Rattle.gate_model.specs.picture.Layers.{Area, Layer, Layers, IsAlike, draw, play, with_layer, is_covered, is_in, open_path, painted, sized, traced}
use Rattle.gate_model.specs.picture.Buffers.{glyph_layer}
use Rattle.glyph_table.proofs.GlyphRects.{rects_cover, rects_inside}
use Rattle.glyph_strokes.specs.Strokes.{covering, fill, inked, rect_at}

-- the layer has this size, these pixels and no rectangle that isn't filled
pub record IsShowing (l : Layer) (w h : ℕ) (pixel : ℕ → ℕ → Option Colour) : Type 0 where
  pub width : l.width ≡ w
  pub height : l.height ≡ h
  pub no_path : open_path l ≡ []
  pub pixels : (x y : ℕ) → x < w → y < h → l.pixel x y ≡ pixel x y

-- pixels that are the same inside the layer may stand for each other
pub same_pixels : (l : Layer) (w h : ℕ) (p q : ℕ → ℕ → Option Colour) → ((x y : ℕ) → x < w → y < h → p x y ≡ q x y) → IsShowing l w h p → IsShowing l w h q
same_pixels l w h p q same s = record {
  width = s.width;
  height = s.height;
  no_path = s.no_path;
  pixels = λ x y in_x in_y. s.pixels x y in_x in_y ∙ same x y in_x in_y;
}

-- ---- a list for one layer
-- the instruction sizes, traces or fills this layer
abbrev IsFor : ℤ → Instr → Type 0
IsFor k (Size j w h) = j ≡ k
IsFor k (Rect j x y w h) = j ≡ k
IsFor k (Cfill j red green blue) = j ≡ k
IsFor k (Copy j x y w h to to_x to_y) = ⊥
IsFor k (Sync t) = ⊥
IsFor k Disconnect = ⊥
IsFor k (Error status) = ⊥

abbrev pub AreFor : ℤ → List Instr → Type 0
AreFor k [] = Unit {0}
AreFor k (i ∷ is) = IsFor k i × AreFor k is

-- what it leaves of the layer
abbrev stroke : Layer → Instr → Layer
stroke l (Size j w h) = sized l w h
stroke l (Rect j x y w h) = traced l record { x = x; y = y; width = w; height = h }
stroke l (Cfill j red green blue) = painted l record { red = red; green = green; blue = blue }
stroke l (Copy j x y w h to to_x to_y) = l
stroke l (Sync t) = l
stroke l Disconnect = l
stroke l (Error status) = l

abbrev pub after : Layer → List Instr → Layer
after l [] = l
after l (i ∷ is) = after (stroke l i) is

pub after-append : (l : Layer) (first second : List Instr) → after l (first ++ second) ≡ after (after l first) second
after-append l [] second = refl
after-append l (i ∷ first) second = after-append (stroke l i) first second

pub equal_self : (k : ℤ) → int_eq k k ≡ true
equal_self k = (Decides-int_eq k k).1 refl

pub put_here : (m : Layers) (k : ℤ) (l : Layer) → with_layer m k l k ≡ l
put_here m k l = rw (equal_self k) refl

pub put_there : (m : Layers) (k : ℤ) (l : Layer) (j : ℤ) → int_eq j k ≡ false → with_layer m k l j ≡ m j
put_there m k l j e = rw e refl

played : (m : Layers) (k : ℤ) (i : Instr) → IsFor k i → play m i ≡ with_layer m k (stroke (m k) i)
played m k (Size j w h) e = ap (λ (i : ℤ). with_layer m i (sized (m i) w h)) e
played m k (Rect j x y w h) e = ap (λ (i : ℤ). with_layer m i (traced (m i) record { x = x; y = y; width = w; height = h })) e
played m k (Cfill j red green blue) e = ap (λ (i : ℤ). with_layer m i (painted (m i) record { red = red; green = green; blue = blue })) e
played m k (Copy j x y w h to to_x to_y) e = absurd e
played m k (Sync t) e = absurd e
played m k Disconnect e = absurd e
played m k (Error status) e = absurd e

pub drawn_here : (m : Layers) (k : ℤ) (is : List Instr) → AreFor k is → draw m is k ≡ after (m k) is
drawn_here m k [] all = refl
drawn_here m k (i ∷ is) all =
    ap (λ (n : Layers). draw n is k) (played m k i all.0)
    ∙ (drawn_here (with_layer m k (stroke (m k) i)) k is all.1
    ∙ ap (λ (l : Layer). after l is) (put_here m k (stroke (m k) i)))

pub drawn_there : (m : Layers) (k : ℤ) (is : List Instr) (j : ℤ) → AreFor k is → int_eq j k ≡ false → draw m is j ≡ m j
drawn_there m k [] j all e = refl
drawn_there m k (i ∷ is) j all e =
    ap (λ (n : Layers). draw n is j) (played m k i all.0)
    ∙ (drawn_there (with_layer m k (stroke (m k) i)) k is j all.1 e
    ∙ put_there m k (stroke (m k) i) j e)

-- ---- rectangles and their fill
-- every rectangle of a list joins the path
trace_all : Layer → List Area → Layer
trace_all l [] = l
trace_all l (a ∷ list) = trace_all (traced l a) list

trace_width : (l : Layer) (list : List Area) → (trace_all l list).width ≡ l.width
unfolding trace_all
trace_width l [] = refl
trace_width l (a ∷ list) = trace_width (traced l a) list

trace_height : (l : Layer) (list : List Area) → (trace_all l list).height ≡ l.height
unfolding trace_all
trace_height l [] = refl
trace_height l (a ∷ list) = trace_height (traced l a) list

trace_pixel : (l : Layer) (list : List Area) (x y : ℕ) → (trace_all l list).pixel x y ≡ l.pixel x y
unfolding trace_all
trace_pixel l [] x y = refl
trace_pixel l (a ∷ list) x y = trace_pixel (traced l a) list x y

trace_open : (l : Layer) (list : List Area) → l.filled ≡ false → (trace_all l list).filled ≡ false
unfolding trace_all
trace_open l [] e = e
trace_open l (a ∷ list) e = trace_open (traced l a) list refl

or_turned : (a b c : Bool) → (a || (b || c)) ≡ ((b || a) || c)
or_turned true true c = refl
or_turned true false c = refl
or_turned false true c = refl
or_turned false false c = refl

trace_path : (l : Layer) (list : List Area) (p : Area → Bool) → list_any p (open_path (trace_all l list)) ≡ (list_any p list || list_any p (open_path l))
unfolding trace_all
trace_path l [] p = refl
trace_path l (a ∷ list) p = trace_path (traced l a) list p ∙ or_turned (list_any p list) (p a) (list_any p (open_path l))

open_is_path : (l : Layer) → l.filled ≡ false → open_path l ≡ l.path
open_is_path l e = ap (λ (f : Bool). if f then [] else l.path) e

-- the pixel that a fill of these rectangles leaves
unfoldable filled_pixel : List Area → Colour → (ℕ → ℕ → Option Colour) → ℕ → ℕ → Option Colour
filled_pixel list c pixel x y = if list_any (λ a. is_covered a x y) list then Some c else pixel x y

or_false : (a : Bool) → (a || false) ≡ a
or_false true = refl
or_false false = refl

fresh_path : (l : Layer) (first : Area) (list : List Area) (p : Area → Bool) → open_path l ≡ [] → list_any p (trace_all l (first ∷ list)).path ≡ list_any p (first ∷ list)
unfolding trace_all
fresh_path l first list p none =
    ap (list_any p) (sym (open_is_path (trace_all l (first ∷ list)) (trace_open (traced l first) list refl)))
    ∙ (trace_path l (first ∷ list) p
    ∙ (ap (λ (rest : List Area). list_any p (first ∷ list) || list_any p rest) none
    ∙ or_false (list_any p (first ∷ list))))

inside : (l : Layer) (w h x y : ℕ) → l.width ≡ w → l.height ≡ h → x < w → y < h → is_in x y l ≡ true
inside l w h x y is_w is_h in_x in_y = grind (arith, nat_tests)

when_inside : (a b c : Bool) (now old : Option Colour) → a ≡ true → b ≡ c → (if a && b then now else old) ≡ (if c then now else old)
when_inside true b c now old e f = ap (λ (t : Bool). if t then now else old) f
when_inside false b c now old e f = absurd (cc)

painted_pixel : (l : Layer) (first : Area) (list : List Area) (c : Colour) (w h : ℕ) (pixel : ℕ → ℕ → Option Colour) → IsShowing l w h pixel
    → (x y : ℕ) → x < w → y < h → (painted (trace_all l (first ∷ list)) c).pixel x y ≡ filled_pixel (first ∷ list) c pixel x y
unfolding filled_pixel
painted_pixel l first list c w h pixel s x y in_x in_y =
    let t = trace_all l (first ∷ list) in
    let covered : Area → Bool = λ a. is_covered a x y in
    when_inside (is_in x y t) (list_any covered t.path) (list_any covered (first ∷ list)) (Some c) (t.pixel x y)
    (inside t w h x y (trace_width l (first ∷ list) ∙ s.width) (trace_height l (first ∷ list) ∙ s.height) in_x in_y)
    (fresh_path l first list covered s.no_path)
    ∙ ap (λ (old : Option Colour). if list_any covered (first ∷ list) then Some c else old) (trace_pixel l (first ∷ list) x y ∙ s.pixels x y in_x in_y)

painted_showing : (l : Layer) (first : Area) (list : List Area) (c : Colour) (w h : ℕ) (pixel : ℕ → ℕ → Option Colour) → IsShowing l w h pixel
    → IsShowing (painted (trace_all l (first ∷ list)) c) w h (filled_pixel (first ∷ list) c pixel)
painted_showing l first list c w h pixel s = record {
  width = trace_width l (first ∷ list) ∙ s.width;
  height = trace_height l (first ∷ list) ∙ s.height;
  no_path = refl;
  pixels = painted_pixel l first list c w h pixel s;
}

-- ---- the paper of a cell
-- the cell that begins at a pixel
abbrev pub cell_at : ℕ → ℕ → Area
cell_at left top = record { x = left; y = top; width = 8; height = 16 }

papered : (l : Layer) (k : ℤ) (area : Area) (paper : ℕ) → after l (Rect k area.x area.y area.width area.height ∷ fill k paper ∷ []) ≡ painted (trace_all l (area ∷ [])) (colour_of paper)
unfolding fill trace_all
papered l k area paper = refl

abbrev pub area_pixel : Area → Colour → (ℕ → ℕ → Option Colour) → ℕ → ℕ → Option Colour
area_pixel area c pixel x y = if is_covered area x y then Some c else pixel x y

one_filled : (area : Area) (c : Colour) (pixel : ℕ → ℕ → Option Colour) (x y : ℕ) → filled_pixel (area ∷ []) c pixel x y ≡ area_pixel area c pixel x y
unfolding filled_pixel
one_filled area c pixel x y = ap (λ (t : Bool). if t then Some c else pixel x y) (or_false (is_covered area x y))

-- an area of the layer has the colour, and the rest stays
pub area_shows : (l : Layer) (k : ℤ) (area : Area) (paper w h : ℕ) (pixel : ℕ → ℕ → Option Colour) → IsShowing l w h pixel
    → IsShowing (after l (Rect k area.x area.y area.width area.height ∷ fill k paper ∷ [])) w h (area_pixel area (colour_of paper) pixel)
area_shows l k area paper w h pixel s =
    subst (λ (n : Layer). IsShowing n w h (area_pixel area (colour_of paper) pixel)) (sym (papered l k area paper))
    (same_pixels _ w h _ (area_pixel area (colour_of paper) pixel) (λ x y in_x in_y. one_filled area (colour_of paper) pixel x y)
    (painted_showing l area [] (colour_of paper) w h pixel s))

pub area_for : (k : ℤ) (area : Area) (paper : ℕ) → AreFor k (Rect k area.x area.y area.width area.height ∷ fill k paper ∷ [])
unfolding fill
area_for k area paper = (refl, (refl, tt))

abbrev paper_pixel : ℕ → ℕ → Colour → (ℕ → ℕ → Option Colour) → ℕ → ℕ → Option Colour
paper_pixel left top c pixel x y = area_pixel (cell_at left top) c pixel x y

paper_shows : (l : Layer) (k : ℤ) (left top paper w h : ℕ) (pixel : ℕ → ℕ → Option Colour) → IsShowing l w h pixel
    → IsShowing (after l (Rect k left top 8 16 ∷ fill k paper ∷ [])) w h (paper_pixel left top (colour_of paper) pixel)
paper_shows l k left top paper w h pixel s = area_shows l k (cell_at left top) paper w h pixel s

-- ---- the ink of a glyph
area_at : ℕ → ℕ → Patch → Area
area_at left top p = record { x = left + p.x; y = top + p.y; width = p.width; height = p.height }

-- a rectangle of the glyph has the pixel
unfoldable is_inked : ℕ → ℕ → List Patch → ℕ → ℕ → Bool
is_inked left top ps x y = list_any (λ a. is_covered a x y) (map (area_at left top) ps)

traces : (l : Layer) (k : ℤ) (left top : ℕ) (ps : List Patch) → after l (map (rect_at k left top) ps) ≡ trace_all l (map (area_at left top) ps)
unfolding trace_all area_at
traces l k left top [] = refl
traces l k left top (p ∷ ps) = traces (traced l (area_at left top p)) k left top ps

filled_after : (l : Layer) (k : ℤ) (index : ℕ) → after l (fill k index ∷ []) ≡ painted l (colour_of index)
unfolding fill
filled_after l k index = refl

ink_pixel : (left top : ℕ) (ps : List Patch) (c : Colour) (pixel : ℕ → ℕ → Option Colour) (x y : ℕ)
    → filled_pixel (map (area_at left top) ps) c pixel x y ≡ (if is_inked left top ps x y then Some c else pixel x y)
unfolding filled_pixel is_inked
ink_pixel left top ps c pixel x y = refl

inked_shows : (l : Layer) (k : ℤ) (left top : ℕ) (ps : List Patch) (ink w h : ℕ) (pixel : ℕ → ℕ → Option Colour) → IsShowing l w h pixel
    → IsShowing (after l (inked k left top ps ink)) w h (λ x y. if is_inked left top ps x y then Some (colour_of ink) else pixel x y)
unfolding inked is_inked
inked_shows l k left top [] ink w h pixel s = s
inked_shows l k left top (p ∷ ps) ink w h pixel s =
    let drawn : after l (map (rect_at k left top) (p ∷ ps) ++ fill k ink ∷ []) ≡ painted (trace_all l (map (area_at left top) (p ∷ ps))) (colour_of ink) =
    after-append l (map (rect_at k left top) (p ∷ ps)) (fill k ink ∷ [])
    ∙ (filled_after (after l (map (rect_at k left top) (p ∷ ps))) k ink
    ∙ ap (λ (n : Layer). painted n (colour_of ink)) (traces l k left top (p ∷ ps))) in
    subst (λ (n : Layer). IsShowing n w h (λ x y. if is_inked left top (p ∷ ps) x y then Some (colour_of ink) else pixel x y)) (sym drawn)
    (same_pixels _ w h _ _ (λ x y in_x in_y. ink_pixel left top (p ∷ ps) (colour_of ink) pixel x y)
    (painted_showing l (area_at left top p) (map (area_at left top) ps) (colour_of ink) w h pixel s))

-- ---- which pixels of the cell have ink
and_same : (a b c d : Bool) → a ≡ c → b ≡ d → (a && b) ≡ (c && d)
and_same a b c d e f = ap (λ (t : Bool). t && b) e ∙ ap (λ (t : Bool). c && t) f

from_start : (left a x : ℕ) → left ≤ x → nat_le (left + a) x ≡ nat_le a (x - left)
from_start left a x le = grind (arith, nat_tests)

to_end : (left a width x : ℕ) → left ≤ x → nat_lt x (left + a + width) ≡ nat_lt (x - left) (a + width)
to_end left a width x le = grind (arith, nat_tests)

covers_moved : (left top : ℕ) (p : Patch) (x y : ℕ) → left ≤ x → top ≤ y → is_covered (area_at left top p) x y ≡ covers p (x - left) (y - top)
unfolding area_at
covers_moved left top p x y in_x in_y =
    and_same _ _ _ _
    (and_same _ _ _ _ (and_same _ _ _ _ (from_start left p.x x in_x) (to_end left p.x p.width x in_x)) (from_start top p.y y in_y))
    (to_end top p.y p.height y in_y)

inked_moved : (left top : ℕ) (ps : List Patch) (x y : ℕ) → left ≤ x → top ≤ y → is_inked left top ps x y ≡ list_any (λ p. covers p (x - left) (y - top)) ps
unfolding is_inked
inked_moved left top [] x y in_x in_y = refl
inked_moved left top (p ∷ ps) x y in_x in_y =
    ap (λ (b : Bool). b || list_any (λ a. is_covered a x y) (map (area_at left top) ps)) (covers_moved left top p x y in_x in_y)
    ∙ ap (λ (b : Bool). covers p (x - left) (y - top) || b) (inked_moved left top ps x y in_x in_y)

from_le : (a b : ℕ) → nat_le a b ≡ true → a ≤ b
from_le a b e = grind (arith, nat_tests)

from_lt : (a b : ℕ) → nat_lt a b ≡ true → a < b
from_lt a b e = grind (arith, nat_tests)

to_le : (a b : ℕ) → a ≤ b → nat_le a b ≡ true
to_le a b e = grind (arith, nat_tests)

to_lt : (a b : ℕ) → a < b → nat_lt a b ≡ true
to_lt a b e = grind (arith, nat_tests)

four : (a b c d : Bool) → (((a && b) && c) && d) ≡ true → (a ≡ true) × (b ≡ true) × (c ≡ true) × (d ≡ true)
four true true true true e = (refl, refl, refl, refl)
four false b c d e = absurd (cc)
four true false c d e = absurd (cc)
four true true false d e = absurd (cc)
four true true true false e = absurd (cc)

all_four : (a b c d : Bool) → a ≡ true → b ≡ true → c ≡ true → d ≡ true → (((a && b) && c) && d) ≡ true
all_four a b c d e f g h = rw (e, f, g, h) refl

pub covered_at : (left top x y : ℕ) → left ≤ x → x < left + 8 → top ≤ y → y < top + 16 → is_covered (cell_at left top) x y ≡ true
covered_at left top x y a b c d = all_four _ _ _ _ (to_le left x a) (to_lt x (left + 8) b) (to_le top y c) (to_lt y (top + 16) d)

-- the bounds of a pixel of a rectangle
pub record IsBetween (left top width height x y : ℕ) : Type 0 where
  pub left_of : left ≤ x
  pub right_of : x < left + width
  pub above : top ≤ y
  pub below : y < top + height

pub bounds : (a : Area) (x y : ℕ) → is_covered a x y ≡ true → IsBetween a.x a.y a.width a.height x y
bounds a x y e =
    let f = four _ _ _ _ e in
    record {
      left_of = from_le a.x x f.0;
      right_of = from_lt x (a.x + a.width) f.1;
      above = from_le a.y y f.2;
      below = from_lt y (a.y + a.height) f.3;
    }

in_cell : (left top : ℕ) (p : Patch) (x y : ℕ) → IsInside p → is_covered (area_at left top p) x y ≡ true → is_covered (cell_at left top) x y ≡ true
unfolding area_at
in_cell left top p x y is e =
    let b = bounds (area_at left top p) x y e in
    all_four _ _ _ _
    (to_le left x (omega (arith, b.left_of)))
    (to_lt x (left + 8) (omega (arith, b.right_of, is.in_columns)))
    (to_le top y (omega (arith, b.above)))
    (to_lt y (top + 16) (omega (arith, b.below, is.in_rows)))

not_true : (b c : Bool) → (b ≡ true → c ≡ true) → c ≡ false → b ≡ false
not_true false c f e = refl
not_true true c f e = sym (f refl) ∙ e

no_ink : (left top : ℕ) (ps : List Patch) (x y : ℕ) → All IsInside ps → is_covered (cell_at left top) x y ≡ false → is_inked left top ps x y ≡ false
unfolding is_inked
no_ink left top [] x y all e = refl
no_ink left top (p ∷ ps) x y all e =
    ap (λ (b : Bool). b || list_any (λ a. is_covered a x y) (map (area_at left top) ps)) (not_true (is_covered (area_at left top p) x y) (is_covered (cell_at left top) x y) (in_cell left top p x y (All-head IsInside p ps all)) e)
    ∙ no_ink left top ps x y (All-tail IsInside p ps all) e

-- ---- the glyph over whatever the layer showed
-- the pixels afterwards
abbrev pub glyph_pixel : ℕ → ℕ → Key → (ℕ → ℕ → Option Colour) → ℕ → ℕ → Option Colour
glyph_pixel left top key pixel x y = if is_covered (cell_at left top) x y then Some (glyph key (x - left) (y - top)) else pixel x y

choose : (b c d : Bool) (ink paper : ℕ) (old : Option Colour) → d ≡ true → b ≡ c
    → (if b then Some (colour_of ink) else if d then Some (colour_of paper) else old) ≡ (if d then Some (colour_of (if c then ink else paper)) else old)
choose true true true ink paper old e f = refl
choose false false true ink paper old e f = refl
choose true false true ink paper old e f = absurd (cc)
choose false true true ink paper old e f = absurd (cc)
choose b c false ink paper old e f = absurd (cc)

keep : (b c d : Bool) (ink paper : ℕ) (old : Option Colour) → d ≡ false → b ≡ false
    → (if b then Some (colour_of ink) else if d then Some (colour_of paper) else old) ≡ (if d then Some (colour_of (if c then ink else paper)) else old)
keep false c false ink paper old e f = refl
keep true c d ink paper old e f = absurd (cc)
keep false c true ink paper old e f = absurd (cc)

covered_pixel : (left top : ℕ) (key : Key) (pixel : ℕ → ℕ → Option Colour) (x y : ℕ)
    → (if is_inked left top (rects key.face key.under) x y then Some (colour_of key.ink) else paper_pixel left top (colour_of key.paper) pixel x y) ≡ glyph_pixel left top key pixel x y
covered_pixel left top key pixel x y = cases (is_covered (cell_at left top) x y) refl
  where
    cases : (b : Bool) → is_covered (cell_at left top) x y ≡ b
        → (if is_inked left top (rects key.face key.under) x y then Some (colour_of key.ink) else paper_pixel left top (colour_of key.paper) pixel x y) ≡ glyph_pixel left top key pixel x y
    cases true e =
        let b = bounds (cell_at left top) x y e in
        choose (is_inked left top (rects key.face key.under) x y) (lit key.face key.under (x - left) (y - top)) (is_covered (cell_at left top) x y) key.ink key.paper (pixel x y) e
        (inked_moved left top (rects key.face key.under) x y b.left_of b.above
        ∙ rects_cover key.face key.under (x - left) (y - top) (omega (arith, b.right_of, b.left_of)) (omega (arith, b.below, b.above)))
    cases false e =
        keep (is_inked left top (rects key.face key.under) x y) (lit key.face key.under (x - left) (y - top)) (is_covered (cell_at left top) x y) key.ink key.paper (pixel x y) e
        (no_ink left top (rects key.face key.under) x y (rects_inside key.face key.under) e)

pub covered_shows : (l : Layer) (k : ℤ) (left top : ℕ) (key : Key) (w h : ℕ) (pixel : ℕ → ℕ → Option Colour) → IsShowing l w h pixel
    → IsShowing (after l (covering k left top key)) w h (glyph_pixel left top key pixel)
unfolding covering
covered_shows l k left top key w h pixel s =
    same_pixels _ w h _ (glyph_pixel left top key pixel)
    (λ x y in_x in_y. covered_pixel left top key pixel x y)
    (inked_shows (after l (Rect k left top 8 16 ∷ fill k key.paper ∷ [])) k left top (rects key.face key.under) key.ink w h (paper_pixel left top (colour_of key.paper) pixel)
    (paper_shows l k left top key.paper w h pixel s))

pub glyph_alike : (l : Layer) (key : Key) → IsShowing l 8 16 (λ x y. Some (glyph key x y)) → IsAlike l (glyph_layer key)
glyph_alike l key s = record {
  width = s.width;
  height = s.height;
  pixels = λ x y low high.
      let w : l.width ≡ 8 = s.width in
      let h : l.height ≡ 16 = s.height in
      s.pixels x y (omega (arith, w, low)) (omega (arith, h, high));
}

-- a layer of the size of a cell, without an unfilled rectangle, shows the key's glyph afterwards
pub record HasGlyph (l : Layer) (key : Key) : Type 0 where
  pub look : IsAlike l (glyph_layer key)
  pub no_path : open_path l ≡ []

-- ---- a layer of a cell's size, wholly painted
whole_glyph : (key : Key) (pixel : ℕ → ℕ → Option Colour) (x y : ℕ) → x < 8 → y < 16 → glyph_pixel 0 0 key pixel x y ≡ Some (glyph key x y)
whole_glyph key pixel x y in_x in_y =
    let right : x - 0 ≡ x = omega arith in
    let lower : y - 0 ≡ y = omega arith in
    ap (λ (b : Bool). if b then Some (glyph key (x - 0) (y - 0)) else pixel x y) (covered_at 0 0 x y (omega arith) (omega (arith, in_x)) (omega arith) (omega (arith, in_y)))
    ∙ (ap (λ (i : ℕ). Some (glyph key i (y - 0))) right ∙ ap (λ (i : ℕ). Some (glyph key x i)) lower)

pub covered : (l : Layer) (k : ℤ) (key : Key) → l.width ≡ 8 → l.height ≡ 16 → open_path l ≡ [] → HasGlyph (after l (covering k 0 0 key)) key
covered l k key w h none =
    let s : IsShowing (after l (covering k 0 0 key)) 8 16 (λ x y. Some (glyph key x y)) =
    same_pixels _ 8 16 (glyph_pixel 0 0 key l.pixel) (λ x y. Some (glyph key x y)) (λ x y in_x in_y. whole_glyph key l.pixel x y in_x in_y)
    (covered_shows l k 0 0 key 8 16 l.pixel record { width = w; height = h; no_path = none; pixels = λ x y in_x in_y. refl }) in
    record { look = glyph_alike (after l (covering k 0 0 key)) key s; no_path = s.no_path }

pub covered_anew : (l : Layer) (k : ℤ) (key : Key) → open_path l ≡ [] → HasGlyph (after l (Size k 8 16 ∷ covering k 0 0 key)) key
covered_anew l k key none = covered (sized l 8 16) k key refl refl none

-- ---- the lists are for their layer
inked_for : (k : ℤ) (left top : ℕ) (ps : List Patch) (ink : ℕ) → AreFor k (map (rect_at k left top) ps ++ fill k ink ∷ [])
unfolding fill
inked_for k left top [] ink = (refl, tt)
inked_for k left top (p ∷ ps) ink = (refl, inked_for k left top ps ink)

pub covering_for : (k : ℤ) (left top : ℕ) (key : Key) → AreFor k (covering k left top key)
unfolding covering fill inked
covering_for k left top key = (refl, (refl, cases (rects key.face key.under)))
  where
    cases : (ps : List Patch) → AreFor k (inked k left top ps key.ink)
    cases [] = tt
    cases (p ∷ ps) = inked_for k left top (p ∷ ps) key.ink

-- ---- a blank cell has its paper's colour
no_light : (x y : ℕ) → x < 8 → y < 16 → lit 32 false x y ≡ false
unfolding rects columns_rects column_rects runs_within
no_light x y in_x in_y = sym (rects_cover 32 false x y in_x in_y)

from_eq : (a b : ℕ) → (a == b) ≡ true → a ≡ b
from_eq a b e = grind (arith, nat_tests)

not_under : (a b : Bool) → (a && not b) ≡ true → (a ≡ true) × (b ≡ false)
not_under true false e = (refl, refl)
not_under false b e = absurd (cc)
not_under true true e = absurd (cc)

pub blank_glyph : (key : Key) (x y : ℕ) → (key.face == 32 && not key.under) ≡ true → x < 8 → y < 16 → glyph key x y ≡ colour_of key.paper
blank_glyph key x y e in_x in_y =
    let t = not_under (key.face == 32) key.under e in
    let dark : lit key.face key.under x y ≡ false =
    ap (λ (n : ℕ). lit n key.under x y) (from_eq key.face 32 t.0) ∙ (ap (λ (b : Bool). lit 32 b x y) t.1 ∙ no_light x y in_x in_y) in
    ap (λ (b : Bool). colour_of (if b then key.ink else key.paper)) dark
