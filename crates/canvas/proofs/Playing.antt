-- A canvas that stood for some layers stands for what an instruction makes of them.
use Rattle.std.proofs.Common.{◌≡◌, ◌≢◌, ℕ, ◌+◌, ◌-◌, ◌<◌, ℤ, List, [], ◌∷◌, ◌++◌, map, reverse, Bool, true, false, ◌&&◌, ◌||◌, nat_lt, if◌then◌else◌, Option, Some, None, refl, sym, ap, subst, ◌∙◌, arith}
use Rattle.std.specs.List.{list_any}
use Rattle.std.specs.Ordering.{int_eq}
use Rattle.std.proofs.lemmas.Bool.Decides.{nat_tests, Decides-int_eq}
use Rattle.std.proofs.lemmas.List.{map-append, reverse-append}
use Rattle.std.proofs.lemmas.List.Folds.{list_any-append}
use Rattle.gate_model.specs.declared.colour.Colour.{Colour}
use Rattle.gate_model.specs.declared.instr.Instr.{Instr}
use Rattle.gate_model.specs.declared.instr.Instr.TheVariants.{Size, Rect, Cfill, Copy}
use Rattle.gate_model.specs.picture.Layers.{Area, Layer, Layers, play, copied, is_covered, is_in, open_path, over, painted, sized, source_pixel, traced, with_layer}
use Rattle.canvas.specs.declared.rectangle.Rectangle.{Rectangle}
use Rattle.canvas.specs.Kept.{IsCopied, IsPainted, IsSized, KeptLayer, area_of, covers, kept_traced, pixel_in, source_in}
use Rattle.canvas.specs.Standing.{IsPlayable, Keeps, KeepsOthers, Stands, areas, kept_at}
use Rattle.canvas.proofs.Rows.{else_case, then_case}
use Rattle.canvas.proofs.Places.{held, layer_back}

same_choice : {X : Type 0} (a b : Bool) (p q o r : X) → a ≡ b → (a ≡ true → p ≡ q) → o ≡ r → (if a then p else o) ≡ (if b then q else r)
same_choice true b p q o r e f g = f refl ∙ sym (then_case b q r (sym e))
same_choice false b p q o r e f g = g ∙ sym (else_case b q r (sym e))

first_of : (a b : Bool) → (a && b) ≡ true → a ≡ true
first_of true b e = refl
first_of false b e = absurd (cc)

left_inside : (l : Layer) (x y : ℕ) → is_in x y l ≡ true → x < l.width
left_inside l x y e = grind (arith, nat_tests)

top_inside : (l : Layer) (x y : ℕ) → is_in x y l ≡ true → y < l.height
top_inside l x y e = grind (arith, nat_tests)

inside : (l : Layer) (x y : ℕ) → x < l.width → y < l.height → is_in x y l ≡ true
inside l x y in_x in_y = grind (arith, nat_tests)

-- ---- each layer
sized_test : (l : Layer) (k : KeptLayer) (w h x y : ℕ) → l.width ≡ k.width → l.height ≡ k.height → x < w → y < h → (is_in x y l && nat_lt x w && nat_lt y h) ≡ (nat_lt x k.width && nat_lt y k.height)
sized_test l k w h x y width height in_x in_y = grind (arith, nat_tests)

sized_inside : (l : Layer) (w h x y : ℕ) → (is_in x y l && nat_lt x w && nat_lt y h) ≡ true → is_in x y l ≡ true
sized_inside l w h x y t = grind (arith, nat_tests)

pub keeps_sized : (k new : KeptLayer) (l : Layer) (w h : ℕ) → Keeps k l → IsSized k w h new → Keeps new (sized l w h)
keeps_sized k new l w h kept s = record {
  width = sym (ap (λ (n : KeptLayer). n.width) s.others);
  height = sym (ap (λ (n : KeptLayer). n.height) s.others);
  pixels = λ x y in_x in_y.
      same_choice (is_in x y l && nat_lt x w && nat_lt y h) (nat_lt x k.width && nat_lt y k.height) (l.pixel x y) (pixel_in k.pixels k.width x y) None None
      (sized_test l k w h x y kept.width kept.height in_x in_y)
      (λ t. let i = sized_inside l w h x y t in kept.pixels x y (left_inside l x y i) (top_inside l x y i)) refl
      ∙ (sym (s.pixels.each x y in_x in_y)
      ∙ ap (λ (n : ℕ). pixel_in new.pixels n x y) (sym (ap (λ (n : KeptLayer). n.width) s.others)));
  path = kept.path ∙ ap areas (sym (ap (λ (n : KeptLayer). n.path) s.others));
  filled = kept.filled ∙ sym (ap (λ (n : KeptLayer). n.filled) s.others);
}

areas_more : (path : List Rectangle) (r : Rectangle) → areas (path ++ r ∷ []) ≡ area_of r ∷ areas path
areas_more path r = ap reverse (map-append area_of path (r ∷ [])) ∙ reverse-append (map area_of path) (area_of r ∷ [])

areas_open : (f : Bool) (path : List Rectangle) → areas (if f then [] else path) ≡ (if f then [] else areas path)
areas_open true path = refl
areas_open false path = refl

open_areas : (k : KeptLayer) (l : Layer) → Keeps k l → open_path l ≡ areas (if k.filled then [] else k.path)
open_areas k l kept =
    ap (λ (f : Bool). if f then [] else l.path) kept.filled
    ∙ (ap (λ (p : List Area). if k.filled then [] else p) kept.path
    ∙ sym (areas_open k.filled k.path))

pub keeps_traced : (k new : KeptLayer) (l : Layer) (r : Rectangle) → Keeps k l → new ≡ kept_traced k r → Keeps new (traced l (area_of r))
keeps_traced k new l r kept e = subst (λ (n : KeptLayer). Keeps n (traced l (area_of r))) (sym e) record {
  width = kept.width;
  height = kept.height;
  pixels = kept.pixels;
  path = ap (λ (p : List Area). area_of r ∷ p) (open_areas k l kept) ∙ sym (areas_more (if k.filled then [] else k.path) r);
  filled = refl;
}

or_turned : (a b : Bool) → (a || (b || false)) ≡ (b || a)
or_turned true true = refl
or_turned true false = refl
or_turned false true = refl
or_turned false false = refl

covers_areas : (path : List Rectangle) (x y : ℕ) → list_any (λ a. is_covered a x y) (areas path) ≡ covers path x y
covers_areas [] x y = refl
covers_areas (r ∷ path) x y =
    let p : Area → Bool = λ a. is_covered a x y in
    ap (list_any p) (reverse-append (area_of r ∷ []) (map area_of path))
    ∙ (list_any-append p (areas path) (area_of r ∷ [])
    ∙ (or_turned (list_any p (areas path)) (p (area_of r))
    ∙ ap (λ (b : Bool). p (area_of r) || b) (covers_areas path x y)))

and_true : (a b c : Bool) → a ≡ true → b ≡ c → (a && b) ≡ c
and_true true b c e f = f
and_true false b c e f = absurd (cc)

pub keeps_painted : (k new : KeptLayer) (l : Layer) (c : Colour) → Keeps k l → IsPainted k c new → Keeps new (painted l c)
keeps_painted k new l c kept s = record {
  width = kept.width ∙ sym (ap (λ (n : KeptLayer). n.width) s.others);
  height = kept.height ∙ sym (ap (λ (n : KeptLayer). n.height) s.others);
  pixels = λ x y in_x in_y.
      let p : Area → Bool = λ a. is_covered a x y in
      same_choice (is_in x y l && list_any p l.path) (covers k.path x y) (Some c) (Some c) (l.pixel x y) (pixel_in k.pixels k.width x y)
      (and_true (is_in x y l) (list_any p l.path) (covers k.path x y) (inside l x y in_x in_y) (ap (list_any p) kept.path ∙ covers_areas k.path x y))
      (λ t. refl) (kept.pixels x y in_x in_y)
      ∙ (sym (s.pixels.each x y (subst (λ (n : ℕ). x < n) kept.width in_x) (subst (λ (n : ℕ). y < n) kept.height in_y))
      ∙ ap (λ (n : ℕ). pixel_in new.pixels n x y) (sym (ap (λ (n : KeptLayer). n.width) s.others)));
  path = kept.path ∙ ap areas (sym (ap (λ (n : KeptLayer). n.path) s.others));
  filled = sym (ap (λ (n : KeptLayer). n.filled) s.others);
}

inside_kept : (k : KeptLayer) (l : Layer) (x y : ℕ) → l.width ≡ k.width → l.height ≡ k.height → is_in x y l ≡ (nat_lt x k.width && nat_lt y k.height)
inside_kept k l x y width height = ap (λ (n : ℕ). nat_lt x n && nat_lt y l.height) width ∙ ap (λ (n : ℕ). nat_lt x k.width && nat_lt y n) height

source_same : (k : KeptLayer) (l : Layer) (x y : ℕ) → Keeps k l → source_pixel l x y ≡ source_in k x y
source_same k l x y kept =
    same_choice (is_in x y l) (nat_lt x k.width && nat_lt y k.height) (l.pixel x y) (pixel_in k.pixels k.width x y) None None
    (inside_kept k l x y kept.width kept.height) (λ t. kept.pixels x y (left_inside l x y t) (top_inside l x y t)) refl

pub keeps_copied : (source k new : KeptLayer) (s l : Layer) (area : Rectangle) (x y : ℕ) → Keeps source s → Keeps k l → IsCopied source area k x y new
    → Keeps new (copied s area.x area.y l record { x = x; y = y; width = area.width; height = area.height })
keeps_copied source k new s l area x y from kept c = record {
  width = kept.width ∙ sym (ap (λ (n : KeptLayer). n.width) c.others);
  height = kept.height ∙ sym (ap (λ (n : KeptLayer). n.height) c.others);
  pixels = λ px py in_x in_y.
      let target : Area = record { x = x; y = y; width = area.width; height = area.height } in
      let sx = area.x + (px - x) in
      let sy = area.y + (py - y) in
      let old : l.pixel px py ≡ pixel_in k.pixels k.width px py = kept.pixels px py in_x in_y in
      same_choice (is_in px py l && is_covered target px py) (is_covered target px py) (over (source_pixel s sx sy) (l.pixel px py)) (over (source_in source sx sy) (pixel_in k.pixels k.width px py)) (l.pixel px py) (pixel_in k.pixels k.width px py)
      (and_true (is_in px py l) (is_covered target px py) (is_covered target px py) (inside l px py in_x in_y) refl)
      (λ t. ap (λ (p : Option Colour). over p (l.pixel px py)) (source_same source s sx sy from) ∙ ap (over (source_in source sx sy)) old) old
      ∙ (sym (c.pixels px py (subst (λ (n : ℕ). px < n) kept.width in_x) (subst (λ (n : ℕ). py < n) kept.height in_y))
      ∙ ap (λ (n : ℕ). pixel_in new.pixels n px py) (sym (ap (λ (n : KeptLayer). n.width) c.others)));
  path = kept.path ∙ ap areas (sym (ap (λ (n : KeptLayer). n.path) c.others));
  filled = kept.filled ∙ sym (ap (λ (n : KeptLayer). n.filled) c.others);
}

-- ---- all layers
stands_case : (old new : List KeptLayer) (layer j : ℤ) (l : Layer) (m : Layers) (t : Bool) → int_eq j layer ≡ t → Stands old m → KeepsOthers old layer new → Keeps (kept_at new layer) l
    → Keeps (kept_at new j) (with_layer m layer l j)
stands_case old new layer j l m true e s others k =
    subst (λ (n : Layer). Keeps (kept_at new j) n) (sym (then_case (int_eq j layer) l (m j) e))
    (subst (λ (i : ℤ). Keeps (kept_at new i) l) (sym ((Decides-int_eq j layer).0 e)) k)
stands_case old new layer j l m false e s others k =
    let other : j ≢ layer = λ same. (let yes_it : int_eq j layer ≡ true = (Decides-int_eq j layer).1 same in cc) in
    subst (λ (n : Layer). Keeps (kept_at new j) n) (sym (else_case (int_eq j layer) l (m j) e))
    (subst (λ (n : KeptLayer). Keeps n (m j)) (sym (others j other)) (s j))

pub stands_with : (old new : List KeptLayer) (layer : ℤ) (l : Layer) (m : Layers) → Stands old m → KeepsOthers old layer new → Keeps (kept_at new layer) l → Stands new (with_layer m layer l)
stands_with old new layer l m s others k j = stands_case old new layer j l m (int_eq j layer) refl s others k

-- ---- each instruction
abbrev Plays : List KeptLayer → List KeptLayer → Instr → Type 0
Plays old new i = (m : Layers) → Stands old m → Stands new (play m i)

pub plays_size : (old new : List KeptLayer) (i : Instr) (layer : ℤ) (w h : ℕ) → i ≡ Size layer w h → IsPlayable i
    → IsSized (kept_at old (held layer)) w h (kept_at new (held layer)) → KeepsOthers old (held layer) new → Plays old new i
plays_size old new i layer w h is_instr playable done others =
    let back : held layer ≡ layer = layer_back layer (subst IsPlayable is_instr playable).0 in
    subst (Plays old new) (sym is_instr) (λ m s.
    stands_with old new layer (sized (m layer) w h) m s (subst (λ (k : ℤ). KeepsOthers old k new) back others)
    (keeps_sized (kept_at old layer) (kept_at new layer) (m layer) w h (s layer) (subst (λ (k : ℤ). IsSized (kept_at old k) w h (kept_at new k)) back done)))

pub plays_rect : (old new : List KeptLayer) (i : Instr) (layer : ℤ) (r : Rectangle) → i ≡ Rect layer r.x r.y r.width r.height → IsPlayable i
    → kept_at new (held layer) ≡ kept_traced (kept_at old (held layer)) r → KeepsOthers old (held layer) new → Plays old new i
plays_rect old new i layer r is_instr playable done others =
    let back : held layer ≡ layer = layer_back layer (subst IsPlayable is_instr playable) in
    subst (Plays old new) (sym is_instr) (λ m s.
    stands_with old new layer (traced (m layer) (area_of r)) m s (subst (λ (k : ℤ). KeepsOthers old k new) back others)
    (keeps_traced (kept_at old layer) (kept_at new layer) (m layer) r (s layer) (subst (λ (k : ℤ). kept_at new k ≡ kept_traced (kept_at old k) r) back done)))

pub plays_cfill : (old new : List KeptLayer) (i : Instr) (layer : ℤ) (c : Colour) → i ≡ Cfill layer c.red c.green c.blue → IsPlayable i
    → IsPainted (kept_at old (held layer)) c (kept_at new (held layer)) → KeepsOthers old (held layer) new → Plays old new i
plays_cfill old new i layer c is_instr playable done others =
    let back : held layer ≡ layer = layer_back layer (subst IsPlayable is_instr playable) in
    subst (Plays old new) (sym is_instr) (λ m s.
    stands_with old new layer (painted (m layer) c) m s (subst (λ (k : ℤ). KeepsOthers old k new) back others)
    (keeps_painted (kept_at old layer) (kept_at new layer) (m layer) c (s layer) (subst (λ (k : ℤ). IsPainted (kept_at old k) c (kept_at new k)) back done)))

pub plays_copy : (old new : List KeptLayer) (i : Instr) (from to : ℤ) (area : Rectangle) (x y : ℕ) → i ≡ Copy from area.x area.y area.width area.height to x y → IsPlayable i
    → IsCopied (kept_at old (held from)) area (kept_at old (held to)) x y (kept_at new (held to)) → KeepsOthers old (held to) new → Plays old new i
plays_copy old new i from to area x y is_instr playable done others =
    let back_from : held from ≡ from = layer_back from (subst IsPlayable is_instr playable).0 in
    let back_to : held to ≡ to = layer_back to (subst IsPlayable is_instr playable).1 in
    let copied_to : IsCopied (kept_at old (held from)) area (kept_at old to) x y (kept_at new to) = subst (λ (k : ℤ). IsCopied (kept_at old (held from)) area (kept_at old k) x y (kept_at new k)) back_to done in
    let copied_both : IsCopied (kept_at old from) area (kept_at old to) x y (kept_at new to) = subst (λ (k : ℤ). IsCopied (kept_at old k) area (kept_at old to) x y (kept_at new to)) back_from copied_to in
    subst (Plays old new) (sym is_instr) (λ m s.
    stands_with old new to (copied (m from) area.x area.y (m to) record { x = x; y = y; width = area.width; height = area.height }) m s (subst (λ (k : ℤ). KeepsOthers old k new) back_to others)
    (keeps_copied (kept_at old from) (kept_at old to) (kept_at new to) (m from) (m to) area x y (s from) (s to) copied_both))
