-- What paints a cell is of a frame's shape, in range and short.
use Rattle.std.proofs.Common.{◌≡◌, ℕ, zero, suc, ◌+◌, ◌-◌, ◌*◌, ◌^◌, ◌<◌, ◌≤◌, ℤ, List, [], ◌∷◌, ◌++◌, length, map, Bool, true, false, ◌&&◌, nat_lt, if◌then◌else◌, get_or, slice_index, refl, sym, subst, arith}
use Rattle.std.specs.List.{list_all, All}
use Rattle.std.specs.Prelude.{◌/◌, ◌%◌}
use Rattle.std.proofs.lemmas.Bool.{lt-ltb}
use Rattle.std.proofs.lemmas.Bool.Decides.{nat_tests}
use Rattle.std.proofs.lemmas.List.{length-append, length-map}
use Rattle.std.proofs.lemmas.List.Elements.{All-head, All-tail}
use Rattle.gate_model.specs.declared.instr.Instr.{Instr}
use Rattle.gate_model.specs.declared.instr.Instr.TheVariants.{Size, Rect, Cfill, Copy, Sync, Disconnect, Error}
use Rattle.gate_model.specs.declared.key.Key.{Key}
use Rattle.gate_model.specs.declared.colour.Colour.{Colour}
use Rattle.gate_model.specs.picture.Palette.{black, colour_of, first_colour, grey, level, mixed_colour, palette}
use Rattle.gate_model.specs.picture.Shape.{AreReadable, Draws, IsInRange, IsLayer, without_layer}
use Rattle.gate_model.proofs.Readable.{readable_both}
use Rattle.glyph_table.specs.declared.patch.Patch.{Patch}
use Rattle.glyph_table.specs.GlyphRects.{IsInside, rects}
use Rattle.glyph_table.proofs.GlyphRects.{rects_few, rects_inside}
use Rattle.glyph_strokes.specs.Strokes.{covering, fill, inked, rect_at}
use Rattle.glyph_strokes.proofs.Filled.{equal_self}

-- ---- one list after another draws what both do, and what is traced is filled
module _ (cols rows : ℕ) where
  pub draws_both : (unfilled : List ℤ) (first second : List Instr) → Draws cols rows unfilled first → Draws cols rows [] second → Draws cols rows unfilled (first ++ second)
  draws_both unfilled [] second d e = subst (λ (u : List ℤ). Draws cols rows u second) (sym d) e
  draws_both unfilled (Size k w h ∷ is) second d e = (d.0, draws_both unfilled is second d.1 e)
  draws_both unfilled (Rect k x y w h ∷ is) second d e = draws_both (k ∷ unfilled) is second d e
  draws_both unfilled (Cfill k red green blue ∷ is) second d e = (d.0, draws_both (without_layer k unfilled) is second d.1 e)
  draws_both unfilled (Copy k x y w h to to_x to_y ∷ is) second d e = draws_both unfilled is second d e
  draws_both unfilled (Sync t ∷ is) second d e = absurd d
  draws_both unfilled (Disconnect ∷ is) second d e = absurd d
  draws_both unfilled (Error status ∷ is) second d e = absurd d

  -- a layer, so many times
  times : ℕ → ℤ → List ℤ
  times zero k = []
  times (suc n) k = k ∷ times n k

  none_left : (n : ℕ) (k : ℤ) → without_layer k (times n k) ≡ []
  unfolding times
  none_left zero k = refl
  none_left (suc n) k = rw (equal_self k) (none_left n k)

  rects_filled : (n : ℕ) (k : ℤ) (left top : ℕ) (ps : List Patch) (ink : ℕ) → Draws cols rows (times (suc n) k) (map (rect_at k left top) ps ++ fill k ink ∷ [])
  unfolding times fill
  rects_filled n k left top [] ink = (rw (equal_self k) refl, none_left (suc n) k)
  rects_filled n k left top (p ∷ ps) ink = rects_filled (suc n) k left top ps ink

  inked_draws : (k : ℤ) (left top : ℕ) (ps : List Patch) (ink : ℕ) → Draws cols rows [] (inked k left top ps ink)
  unfolding inked times
  inked_draws k left top [] ink = refl
  inked_draws k left top (p ∷ ps) ink = rects_filled 0 k left top ps ink

  pub covering_draws : (k : ℤ) (left top : ℕ) (key : Key) → Draws cols rows [] (covering k left top key)
  unfolding covering fill times
  covering_draws k left top key =
      (rw (equal_self k) refl, subst (λ (u : List ℤ). Draws cols rows u (inked k left top (rects key.face key.under) key.ink)) (sym (none_left 1 k)) (inked_draws k left top (rects key.face key.under) key.ink))

  -- one rectangle and its fill
  pub area_draws : (k : ℤ) (left top width height paper : ℕ) → Draws cols rows [] (Rect k left top width height ∷ fill k paper ∷ [])
  unfolding fill times
  area_draws k left top width height paper = (rw (equal_self k) refl, none_left 1 k)

-- ---- colours
is_colour : Colour → Bool
is_colour c = nat_lt c.red 256 && (nat_lt c.green 256 && nat_lt c.blue 256)

both : (a b : Bool) → (a && b) ≡ true → (a ≡ true) × (b ≡ true)
both true b e = (refl, e)
both false b e = absurd (cc)

at_place : {A : Type 0} (p : A → Bool) (rows : List A) (i : ℕ) (d : A) → list_all p rows ≡ true → p d ≡ true → p (get_or rows i d) ≡ true
at_place p [] i d e h = h
at_place p (x ∷ xs) zero d e h = (both (p x) (list_all p xs) e).0
at_place p (x ∷ xs) (suc i) d e h = at_place p xs i d (both (p x) (list_all p xs) e).1 h

from_lt : (a b : ℕ) → nat_lt a b ≡ true → a < b
from_lt a b e = grind (arith, nat_tests)

first_is : (index : ℕ) → is_colour (first_colour index) ≡ true
unfolding is_colour
first_is index = at_place (λ (rgb : List ℕ). is_colour record { red = slice_index rgb 0; green = slice_index rgb 1; blue = slice_index rgb 2 }) palette index (0 ∷ 0 ∷ 0 ∷ []) refl refl

level_is : (n : ℕ) → nat_lt (level n) 256 ≡ true
level_is n = at_place (λ v. nat_lt v 256) (0 ∷ 95 ∷ 135 ∷ 175 ∷ 215 ∷ 255 ∷ []) n 0 refl refl

mixed_is : (n : ℕ) → is_colour (mixed_colour n) ≡ true
unfolding is_colour
mixed_is n = rw (level_is (n / 36), level_is (n / 6 % 6), level_is (n % 6)) refl

grey_is : (n : ℕ) → n < 24 → is_colour (grey n) ≡ true
unfolding is_colour
grey_is n lt = rw (lt-ltb (8 + 10 * n) 256 (omega (arith, lt))) refl

colour_is : (index : ℕ) → is_colour (colour_of index) ≡ true
unfolding colour_of is_colour
colour_is index = pick (nat_lt index 16) (nat_lt index 232) (nat_lt index 256) refl refl
  where
    pick : (a b c : Bool) → nat_lt index 232 ≡ b → nat_lt index 256 ≡ c → is_colour (if a then first_colour index else (if b then mixed_colour (index - 16) else (if c then grey (index - 232) else black))) ≡ true
    pick true b c e f = first_is index
    pick false true c e f = mixed_is (index - 16)
    pick false false true e f = grey_is (index - 232) (let high = from_lt index 256 f in let low : 232 ≤ index = grind (arith, nat_tests) in omega (arith, high, low))
    pick false false false e f = refl

pub fill_readable : (k : ℤ) (index : ℕ) → IsLayer k → IsInRange (fill k index)
unfolding fill is_colour
fill_readable k index layer =
    let c = colour_of index in
    let p = both (nat_lt c.red 256) (nat_lt c.green 256 && nat_lt c.blue 256) (colour_is index) in
    let q = both (nat_lt c.green 256) (nat_lt c.blue 256) p.1 in
    (layer, from_lt c.red 256 p.0, from_lt c.green 256 q.0, from_lt c.blue 256 q.1)

-- ---- places
small : (n : ℕ) → n ≤ 65536 → n < 2 ^ 32
small n le = omega arith

rect_readable : (k : ℤ) (left top : ℕ) (p : Patch) → IsLayer k → left ≤ 4096 → top ≤ 4096 → IsInside p → IsInRange (rect_at k left top p)
rect_readable k left top p layer l t is =
    (layer, small (left + p.x) (omega (arith, l, is.in_columns)), small (top + p.y) (omega (arith, t, is.in_rows)), small p.width (omega (arith, is.in_columns)), small p.height (omega (arith, is.in_rows)))

rects_readable : (k : ℤ) (left top : ℕ) (ps : List Patch) → IsLayer k → left ≤ 4096 → top ≤ 4096 → All IsInside ps → AreReadable (map (rect_at k left top) ps)
rects_readable k left top [] layer l t all = tt
rects_readable k left top (p ∷ ps) layer l t all = (rect_readable k left top p layer l t (All-head IsInside p ps all), rects_readable k left top ps layer l t (All-tail IsInside p ps all))

inked_readable : (k : ℤ) (left top : ℕ) (ps : List Patch) (ink : ℕ) → IsLayer k → left ≤ 4096 → top ≤ 4096 → All IsInside ps → AreReadable (inked k left top ps ink)
unfolding inked
inked_readable k left top [] ink layer l t all = tt
inked_readable k left top (p ∷ ps) ink layer l t all =
    readable_both (map (rect_at k left top) (p ∷ ps)) (fill k ink ∷ []) (rects_readable k left top (p ∷ ps) layer l t all) (fill_readable k ink layer, tt)

pub covering_readable : (k : ℤ) (left top : ℕ) (key : Key) → IsLayer k → left ≤ 4096 → top ≤ 4096 → AreReadable (covering k left top key)
unfolding covering
covering_readable k left top key layer l t = (
  (layer, small left (omega (arith, l)), small top (omega (arith, t)), small 8 (omega arith), small 16 (omega arith)),
  (fill_readable k key.paper layer, inked_readable k left top (rects key.face key.under) key.ink layer l t (rects_inside key.face key.under)),
)

-- ---- lengths
inked_length : (k : ℤ) (left top : ℕ) (ps : List Patch) (ink : ℕ) → length (inked k left top ps ink) ≤ length ps + 1
unfolding inked
inked_length k left top [] ink = omega arith
inked_length k left top (p ∷ ps) ink = omega (arith, length-append (map (rect_at k left top) (p ∷ ps)) (fill k ink ∷ []), length-map (p ∷ ps) (rect_at k left top))

pub covering_length : (k : ℤ) (left top : ℕ) (key : Key) → length (covering k left top key) ≤ 24
unfolding covering
covering_length k left top key = omega (arith, inked_length k left top (rects key.face key.under) key.ink, rects_few key.face key.under)
