-- A rectangle is filled row by row.
use Rattle.std.proofs.Common.{◌≡◌, ℕ, ◌+◌, ◌-◌, ◌*◌, ◌<◌, ◌≤◌, inl, inr, min, List, length, replicate, get_or, Bool, true, false, ◌&&◌, ◌||◌, nat_le, nat_lt, if◌then◌else◌, Option, Some, None, refl, sym, ap, ◌∙◌, arith}
use Rattle.std.proofs.lemmas.Bool.Decides.{nat_tests}
use Rattle.std.proofs.lemmas.List.{get_or-replicate, length-replicate}
use Rattle.std.proofs.lemmas.Bool.{cases_lt}
use Rattle.gate_model.specs.declared.colour.Colour.{Colour}
use Rattle.gate_model.specs.picture.Layers.{is_covered}
use Rattle.canvas.specs.declared.rectangle.Rectangle.{Rectangle}
use Rattle.canvas.specs.Kept.{Shows, area_of, is_within, pixel_in, with_part}
use Rattle.canvas.proofs.Rows.{else_case, then_case, length-part, row_pixel, row_fits}

abbrev Pixels : Type 0
Pixels = List (Option Colour)

-- no row is done yet
pub nothing_within : (left right top x y : ℕ) → is_within left right top top x y ≡ false
nothing_within left right top x y = grind (arith, nat_tests)

-- one more row is done
pub one_more_within : (left right top r x y : ℕ) → top ≤ r → is_within left right top (r + 1) x y ≡ (is_within left right r (r + 1) x y || is_within left right top r x y)
one_more_within left right top r x y order = grind (arith, nat_tests)

pub either_case : {X : Type 0} (a b c : Bool) (new old : X) → c ≡ (a || b) → (if a then new else (if b then new else old)) ≡ (if c then new else old)
either_case true b c new old e = sym (then_case c new old e)
either_case false b c new old e = ap (λ (t : Bool). if t then new else old) (sym e)

pub fill_start : (pixels : Pixels) (w h left right top : ℕ) (c : Colour) → length pixels ≡ h * w
    → Shows pixels w h (λ x y. if is_within left right top top x y then Some c else pixel_in pixels w x y)
fill_start pixels w h left right top c size = record {
  size = size;
  each = λ x y in_x in_y. sym (else_case (is_within left right top top x y) (Some c) (pixel_in pixels w x y) (nothing_within left right top x y));
}

-- a choice changes only where it is taken
pub when_true : {X : Type 0} (b : Bool) (x y old : X) → (b ≡ true → x ≡ y) → (if b then x else old) ≡ (if b then y else old)
when_true true x y old e = e refl
when_true false x y old e = refl

pub within_columns : (left right r x y : ℕ) → is_within left right r (r + 1) x y ≡ true → x - left < right - left
within_columns left right r x y t = grind (arith, nat_tests)

run_colour : (left right r x y : ℕ) (c : Colour) (n : ℕ) (old : Option Colour) → n ≡ right - left
    → (if is_within left right r (r + 1) x y then get_or (replicate n (Some c)) (x - left) None else old) ≡ (if is_within left right r (r + 1) x y then Some c else old)
run_colour left right r x y c n old e =
    when_true (is_within left right r (r + 1) x y) (get_or (replicate n (Some c)) (x - left) None) (Some c) old
    (λ t. get_or-replicate n (x - left) (Some c) None (omega (arith, within_columns left right r x y t)))

pub fill_step : (old now new : Pixels) (w h left right top r : ℕ) (c : Colour) → r < h → left ≤ right → right ≤ w → top ≤ r
    → new ≡ with_part (r * w + left) (r * w + right) (replicate (r * w + right - (r * w + left)) (Some c)) now
    → Shows now w h (λ x y. if is_within left right top r x y then Some c else pixel_in old w x y)
    → Shows new w h (λ x y. if is_within left right top (r + 1) x y then Some c else pixel_in old w x y)
fill_step old now new w h left right top r c in_r order fits above e s =
    let n = r * w + right - (r * w + left) in
    let long : n ≡ right - left = omega arith in
    let room : r * w + w ≤ h * w = row_fits r h w in_r in
    record {
      size = ap length e ∙ (length-part (r * w + left) (r * w + right) (replicate n (Some c)) now (omega (arith, length-replicate n (Some c))) (omega (arith, s.size)) ∙ s.size);
      each = λ x y in_x in_y.
          ap (λ (p : Pixels). pixel_in p w x y) e
          ∙ (row_pixel now (replicate n (Some c)) w left right r order fits (omega (arith, s.size)) (length-replicate n (Some c) ∙ long) x y in_x
          ∙ (run_colour left right r x y c n (pixel_in now w x y) long
          ∙ (ap (λ (p : Option Colour). if is_within left right r (r + 1) x y then Some c else p) (s.each x y in_x in_y)
          ∙ either_case (is_within left right r (r + 1) x y) (is_within left right top r x y) (is_within left right top (r + 1) x y) (Some c) (pixel_in old w x y)
          (one_more_within left right top r x y above))));
    }

-- the part of a rectangle that lies within the pixels
low_test : (from size low x : ℕ) → low ≡ min from size → x < size → nat_le low x ≡ nat_le from x
low_test from size low x e in_x = grind (arith, nat_tests)

is_lower : (a b : ℕ) → a < b → nat_lt a b ≡ true
is_lower a b h = grind (arith, nat_tests)

is_no_lower : (a b : ℕ) → b ≤ a → nat_lt a b ≡ false
is_no_lower a b h = grind (arith, nat_tests)

high_test : (from long size low high x : ℕ) → low ≡ min from size → high ≡ min (min (from + long) 4294967295) size → size ≤ 4096 → x < size → nat_lt x (low + (high - low)) ≡ nat_lt x (from + long)
high_test from long size low high x e f small in_x =
    elim (cases_lt x (from + long)) [
      | inl below ↦ is_lower x (low + (high - low)) (omega arith) ∙ sym (is_lower x (from + long) below)
      | inr above ↦ is_no_lower x (low + (high - low)) (omega arith) ∙ sym (is_no_lower x (from + long) above)
    ]

pub part_within : (rect : Rectangle) (w h left right top bottom x y : ℕ) → w ≤ 4096 → h ≤ 4096
    → left ≡ min rect.x w → right ≡ min (min (rect.x + rect.width) 4294967295) w → top ≡ min rect.y h → bottom ≡ min (min (rect.y + rect.height) 4294967295) h
    → x < w → y < h → is_within left right top bottom x y ≡ is_covered (area_of rect) x y
part_within rect w h left right top bottom x y small_w small_h is_left is_right is_top is_bottom in_x in_y =
    let a : nat_le left x ≡ nat_le rect.x x = low_test rect.x w left x is_left in_x in
    let b : nat_lt x (left + (right - left)) ≡ nat_lt x (rect.x + rect.width) = high_test rect.x rect.width w left right x is_left is_right small_w in_x in
    let c : nat_le top y ≡ nat_le rect.y y = low_test rect.y h top y is_top in_y in
    let d : nat_lt y (top + (bottom - top)) ≡ nat_lt y (rect.y + rect.height) = high_test rect.y rect.height h top bottom y is_top is_bottom small_h in_y in
    ap (λ (t : Bool). t && nat_lt x (left + (right - left)) && nat_le top y && nat_lt y (top + (bottom - top))) a
    ∙ (ap (λ (t : Bool). nat_le rect.x x && t && nat_le top y && nat_lt y (top + (bottom - top))) b
    ∙ (ap (λ (t : Bool). nat_le rect.x x && nat_lt x (rect.x + rect.width) && t && nat_lt y (top + (bottom - top))) c
    ∙ ap (λ (t : Bool). nat_le rect.x x && nat_lt x (rect.x + rect.width) && nat_le rect.y y && t) d))

pub fill_end : (old now : Pixels) (rect : Rectangle) (w h left right top bottom y : ℕ) (c : Colour) → w ≤ 4096 → h ≤ 4096
    → left ≡ min rect.x w → right ≡ min (min (rect.x + rect.width) 4294967295) w → top ≡ min rect.y h → bottom ≡ min (min (rect.y + rect.height) 4294967295) h
    → y ≡ bottom
    → Shows now w h (λ px py. if is_within left right top y px py then Some c else pixel_in old w px py)
    → Shows now w h (λ px py. if is_covered (area_of rect) px py then Some c else pixel_in old w px py)
fill_end old now rect w h left right top bottom y c small_w small_h is_left is_right is_top is_bottom done s = record {
  size = s.size;
  each = λ px py in_x in_y.
      s.each px py in_x in_y
      ∙ ap (λ (t : Bool). if t then Some c else pixel_in old w px py)
      (ap (λ (b : ℕ). is_within left right top b px py) done ∙ part_within rect w h left right top bottom px py small_w small_h is_left is_right is_top is_bottom in_x in_y);
}
