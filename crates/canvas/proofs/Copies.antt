-- The common part of a source and a target is copied.
use Rattle.std.proofs.Common.{◌≡◌, ℕ, ◌+◌, ◌-◌, ◌<◌, ◌≤◌, inl, inr, min, ℤ, List, length, get_or, set, Bool, true, false, ◌&&◌, nat_lt, if◌then◌else◌, Option, None, Result, Ok, Err, OnOk, refl, sym, ap, subst, ◌∙◌, arith}
use Rattle.std.specs.Prelude.{unsigned_abs}
use Rattle.std.proofs.lemmas.Bool.Decides.{nat_tests}
use Rattle.std.proofs.lemmas.Bool.{cases_lt}
use Rattle.std.proofs.lemmas.List.{get_or_default, get_or-set_same}
use Rattle.gate_model.specs.declared.colour.Colour.{Colour}
use Rattle.gate_model.specs.picture.Layers.{is_covered, over}
use Rattle.gate_model.specs.picture.Shape.{IsLayer}
use Rattle.canvas.specs.declared.rectangle.Rectangle.{Rectangle}
use Rattle.canvas.specs.Kept.{HasPart, IsCopied, IsPainted, KeptLayer, Shows, is_within, kept_empty, pixel_in, source_in}
use Rattle.canvas.specs.Standing.{KeepsAll, kept_at}
use Rattle.canvas.proofs.Rows.{else_case, then_case}
use Rattle.canvas.proofs.Places.{kept_there}

abbrev Pixels : Type 0
Pixels = List (Option Colour)

-- a part's pixels come over the old ones just where the source isn't clear
copy_choice : (a b : Bool) (p s old : Option Colour) → (a ≡ true → b ≡ true) → (a ≡ true → p ≡ s) → (a ≡ false → b ≡ true → s ≡ None)
    → (if a then over p old else old) ≡ (if b then over s old else old)
copy_choice true true p s old covered same none = ap (λ (q : Option Colour). over q old) (same refl)
copy_choice true false p s old covered same none = absurd (let e : false ≡ true = covered refl in cc)
copy_choice false true p s old covered same none = sym (ap (λ (q : Option Colour). over q old) (none refl refl))
copy_choice false false p s old covered same none = refl

-- of the rectangle at x, y: a place of its common part, and of the whole
abbrev is_common : ℕ → ℕ → ℕ → ℕ → ℕ → ℕ → Bool
is_common x y w h px py = is_within x (x + w) y (y + h) px py

abbrev is_target : ℕ → ℕ → ℕ → ℕ → ℕ → ℕ → Bool
is_target x y w h px py = is_covered record { x = x; y = y; width = w; height = h } px py

common_covered : (x y w h aw ah px py : ℕ) → w ≤ aw → h ≤ ah → is_common x y w h px py ≡ true → is_target x y aw ah px py ≡ true
common_covered x y w h aw ah px py fits_w fits_h t = grind (arith, nat_tests)

common_low_x : (x y w h px py : ℕ) → is_common x y w h px py ≡ true → x ≤ px
common_low_x x y w h px py t = grind (arith, nat_tests)

common_high_x : (x y w h px py : ℕ) → is_common x y w h px py ≡ true → px < x + w
common_high_x x y w h px py t = grind (arith, nat_tests)

common_low_y : (x y w h px py : ℕ) → is_common x y w h px py ≡ true → y ≤ py
common_low_y x y w h px py t = grind (arith, nat_tests)

common_high_y : (x y w h px py : ℕ) → is_common x y w h px py ≡ true → py < y + h
common_high_y x y w h px py t = grind (arith, nat_tests)

target_low_x : (x y w h px py : ℕ) → is_target x y w h px py ≡ true → x ≤ px
target_low_x x y w h px py t = grind (arith, nat_tests)

target_high_x : (x y w h px py : ℕ) → is_target x y w h px py ≡ true → px < x + w
target_high_x x y w h px py t = grind (arith, nat_tests)

target_low_y : (x y w h px py : ℕ) → is_target x y w h px py ≡ true → y ≤ py
target_low_y x y w h px py t = grind (arith, nat_tests)

target_high_y : (x y w h px py : ℕ) → is_target x y w h px py ≡ true → py < y + h
target_high_y x y w h px py t = grind (arith, nat_tests)

is_common_at : (x y w h px py : ℕ) → x ≤ px → px < x + w → y ≤ py → py < y + h → is_common x y w h px py ≡ true
is_common_at x y w h px py low_x high_x low_y high_y = grind (arith, nat_tests)

both_below : (a b c d : ℕ) → a < b → c < d → (nat_lt a b && nat_lt c d) ≡ true
both_below a b c d e f = grind (arith, nat_tests)

first_above : (a b c d : ℕ) → b ≤ a → (nat_lt a b && nat_lt c d) ≡ false
first_above a b c d e = grind (arith, nat_tests)

second_above : (a b c d : ℕ) → d ≤ c → (nat_lt a b && nat_lt c d) ≡ false
second_above a b c d e = grind (arith, nat_tests)

-- of a place of the whole outside the common part, the source shows nothing
source_none : (s : KeptLayer) (area : Rectangle) (tw th x y w h px py : ℕ)
    → w ≡ min (min area.width (s.width - area.x)) (tw - x) → h ≡ min (min area.height (s.height - area.y)) (th - y)
    → px < tw → py < th → is_common x y w h px py ≡ false → is_target x y area.width area.height px py ≡ true
    → source_in s (area.x + (px - x)) (area.y + (py - y)) ≡ None
source_none s area tw th x y w h px py is_w is_h in_px in_py outside covered =
    let low_x : x ≤ px = target_low_x x y area.width area.height px py covered in
    let high_x : px < x + area.width = target_high_x x y area.width area.height px py covered in
    let low_y : y ≤ py = target_low_y x y area.width area.height px py covered in
    let high_y : py < y + area.height = target_high_y x y area.width area.height px py covered in
    let sx = area.x + (px - x) in
    let sy = area.y + (py - y) in
    let shown = pixel_in s.pixels s.width sx sy in
    elim (cases_lt sx s.width) [
      | inr right ↦ else_case (nat_lt sx s.width && nat_lt sy s.height) shown None (first_above sx s.width sy s.height right)
      | inl in_x ↦ elim (cases_lt sy s.height) [
        | inr below ↦ else_case (nat_lt sx s.width && nat_lt sy s.height) shown None (second_above sx s.width sy s.height below)
        | inl in_y ↦ absurd (let inside : is_common x y w h px py ≡ true = is_common_at x y w h px py low_x (omega arith) low_y (omega arith) in cc)
      ]
    ]

part_pixel : (s : KeptLayer) (area : Rectangle) (part : Pixels) (x y w h px py : ℕ) → w ≤ s.width - area.x → h ≤ s.height - area.y
    → Shows part w h (λ i j. pixel_in s.pixels s.width (area.x + i) (area.y + j)) → is_common x y w h px py ≡ true
    → pixel_in part w (px - x) (py - y) ≡ source_in s (area.x + (px - x)) (area.y + (py - y))
part_pixel s area part x y w h px py fits_w fits_h p common =
    let low_x : x ≤ px = common_low_x x y w h px py common in
    let high_x : px < x + w = common_high_x x y w h px py common in
    let low_y : y ≤ py = common_low_y x y w h px py common in
    let high_y : py < y + h = common_high_y x y w h px py common in
    let sx = area.x + (px - x) in
    let sy = area.y + (py - y) in
    p.each (px - x) (py - y) (omega arith) (omega arith)
    ∙ sym (then_case (nat_lt sx s.width && nat_lt sy s.height) (pixel_in s.pixels s.width sx sy) None (both_below sx s.width sy s.height (omega arith) (omega arith)))

pub copied_part : (s old new : KeptLayer) (area : Rectangle) (part : Pixels) (x y w h : ℕ)
    → w ≡ min (min area.width (s.width - area.x)) (old.width - x) → h ≡ min (min area.height (s.height - area.y)) (old.height - y)
    → Shows part w h (λ i j. pixel_in s.pixels s.width (area.x + i) (area.y + j)) → HasPart old part x y w h new → IsCopied s area old x y new
copied_part s old new area part x y w h is_w is_h p has = record {
  pixels = λ px py in_px in_py.
      has.pixels.each px py in_px in_py
      ∙ copy_choice (is_common x y w h px py) (is_target x y area.width area.height px py) (pixel_in part w (px - x) (py - y)) (source_in s (area.x + (px - x)) (area.y + (py - y))) (pixel_in old.pixels old.width px py)
      (common_covered x y w h area.width area.height px py (omega arith) (omega arith))
      (part_pixel s area part x y w h px py (omega arith) (omega arith) p)
      (source_none s area old.width old.height x y w h px py is_w is_h in_px in_py);
  others = has.others;
}

-- what was copied, at the numbers of the layers
pub copied_layer : (old new : List KeptLayer) (from to : ℤ) (source target : ℕ) (area : Rectangle) (x y : ℕ) → IsLayer to → target ≡ unsigned_abs to
    → kept_at old from ≡ get_or old source kept_empty → kept_at old to ≡ get_or old target kept_empty
    → IsCopied (get_or old source kept_empty) area (get_or old target kept_empty) x y (get_or new target kept_empty)
    → IsCopied (kept_at old from) area (kept_at old to) x y (kept_at new to)
copied_layer old new from to source target area x y named is_target is_from is_to copied =
    subst (λ (s : KeptLayer). IsCopied s area (kept_at old to) x y (kept_at new to)) (sym is_from)
    (subst (λ (t : KeptLayer). IsCopied (get_or old source kept_empty) area t x y (kept_at new to)) (sym is_to)
    (subst (λ (t : KeptLayer). IsCopied (get_or old source kept_empty) area (get_or old target kept_empty) x y t) (kept_there new to target named is_target) copied))

pub on_ok : {A E P Q : Type 0} (r : Result A E) → (P → Q) → OnOk r P → OnOk r Q
on_ok (Ok a) f p = f p
on_ok (Err e) f p = p

pub on_ok_both : {A E P Q R : Type 0} (r : Result A E) → (P → Q → R) → OnOk r P → OnOk r Q → OnOk r R
on_ok_both (Ok a) f p q = f p q
on_ok_both (Err e) f p q = tt

pub on_ok_always : {A E P : Type 0} (r : Result A E) → P → OnOk r P
on_ok_always (Ok a) p = p
on_ok_always (Err e) p = tt

-- a layer that was read at its place
read_at : (now layers : List KeptLayer) (i : ℕ) (l : KeptLayer) → now ≡ layers → i < length layers → l ≡ get_or now i l → l ≡ get_or layers i kept_empty
read_at now layers i l same inside e = e ∙ (ap (λ (ls : List KeptLayer). get_or ls i l) same ∙ get_or_default layers i l kept_empty inside)

-- what was copied, at the places of the layers
pub copied_places : (now layers : List KeptLayer) (source target : ℕ) (s1 t1 s2 t2 new : KeptLayer) (area : Rectangle) (part written : Pixels) (x y w h sw sh tw th : ℕ)
    → now ≡ layers → source < length layers → target < length layers
    → s1 ≡ get_or now source s1 → t1 ≡ get_or now target t1 → s2 ≡ get_or now source s2 → t2 ≡ get_or now target t2
    → sw ≡ s1.width → sh ≡ s1.height → tw ≡ t1.width → th ≡ t1.height
    → w ≡ min (min area.width (sw - area.x)) (tw - x) → h ≡ min (min area.height (sh - area.y)) (th - y)
    → Shows part w h (λ i j. pixel_in s2.pixels s2.width (area.x + i) (area.y + j)) → written ≡ part → HasPart t2 written x y w h new
    → IsCopied (get_or layers source kept_empty) area (get_or layers target kept_empty) x y (get_or (set now target new) target kept_empty)
copied_places now layers source target s1 t1 s2 t2 new area part written x y w h sw sh tw th same in_source in_target is_s1 is_t1 is_s2 is_t2 is_sw is_sh is_tw is_th is_w is_h p is_part has =
    let s_first = read_at now layers source s1 same in_source is_s1 in
    let t_first = read_at now layers target t1 same in_target is_t1 in
    let s_next = read_at now layers source s2 same in_source is_s2 in
    let t_next = read_at now layers target t2 same in_target is_t2 in
    let s = get_or layers source kept_empty in
    let t = get_or layers target kept_empty in
    let same_sw : sw ≡ s2.width = is_sw ∙ ap (λ (l : KeptLayer). l.width) (s_first ∙ sym s_next) in
    let same_sh : sh ≡ s2.height = is_sh ∙ ap (λ (l : KeptLayer). l.height) (s_first ∙ sym s_next) in
    let same_tw : tw ≡ t2.width = is_tw ∙ ap (λ (l : KeptLayer). l.width) (t_first ∙ sym t_next) in
    let same_th : th ≡ t2.height = is_th ∙ ap (λ (l : KeptLayer). l.height) (t_first ∙ sym t_next) in
    let put : get_or (set now target new) target kept_empty ≡ new = get_or-set_same now target new kept_empty (subst (λ (ls : List KeptLayer). target < length ls) (sym same) in_target) in
    let copied : IsCopied s2 area t2 x y new = copied_part s2 t2 new area written x y w h
    (is_w ∙ (ap (λ (n : ℕ). min (min area.width (n - area.x)) (tw - x)) same_sw ∙ ap (λ (n : ℕ). min (min area.width (s2.width - area.x)) (n - x)) same_tw))
    (is_h ∙ (ap (λ (n : ℕ). min (min area.height (n - area.y)) (th - y)) same_sh ∙ ap (λ (n : ℕ). min (min area.height (s2.height - area.y)) (n - y)) same_th))
    (subst (λ (q : Pixels). Shows q w h (λ i j. pixel_in s2.pixels s2.width (area.x + i) (area.y + j))) (sym is_part) p) has in
    subst (λ (l : KeptLayer). IsCopied l area t x y (get_or (set now target new) target kept_empty)) s_next
    (subst (λ (l : KeptLayer). IsCopied s2 area l x y (get_or (set now target new) target kept_empty)) t_next
    (subst (λ (l : KeptLayer). IsCopied s2 area t2 x y l) (sym put) copied))

-- what was painted, at the number of the layer
pub painted_layer : (old grown : List KeptLayer) (k : ℤ) (i : ℕ) (was new : KeptLayer) (c : Colour) → IsLayer k → i ≡ unsigned_abs k → i + 1 ≤ length grown → KeepsAll old grown
    → was ≡ get_or grown i was → IsPainted was c new → IsPainted (kept_at old k) c (kept_at (set grown i new) k)
painted_layer old grown k i was new c named e long same is_was p =
    let before : was ≡ kept_at old k = is_was ∙ (get_or_default grown i was kept_empty (omega arith) ∙ (kept_there grown k i named e ∙ same k)) in
    let after : new ≡ kept_at (set grown i new) k = sym (get_or-set_same grown i new kept_empty (omega arith)) ∙ kept_there (set grown i new) k i named e in
    subst (λ (l : KeptLayer). IsPainted l c (kept_at (set grown i new) k)) before (subst (λ (l : KeptLayer). IsPainted was c l) after p)
