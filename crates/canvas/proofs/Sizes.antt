-- Pixels of another size, and pixels that are compared.
use Rattle.std.proofs.Common.{◌≡◌, ℕ, ◌+◌, ◌-◌, ◌*◌, ◌<◌, ◌==◌, ◌/◌, ◌%◌, min, List, ◌++◌, take, drop, length, replicate, get_or, Bool, true, ◌&&◌, nat_lt, if◌then◌else◌, Option, Some, None, IsTrue, ◌↔◌, refl, sym, ap, ◌∙◌, arith}
use Rattle.std.specs.Bool.{Decides}
use Rattle.std.specs.Option.{option_eq}
use Rattle.std.proofs.lemmas.Bool.Decides.{nat_tests}
use Rattle.std.proofs.lemmas.List.{get_or-replicate, length-replicate, ext_get_or}
use Rattle.std.proofs.lemmas.Nat.{mul-add-lt, div_below, mod_below}
use Rattle.std.proofs.Math.Nat.{mul_comm}
use Rattle.std.proofs.Math.Seq.{take-append_seam}
use Rattle.gate_model.specs.declared.colour.Colour.{Colour}
use Rattle.gate_model.specs.picture.Layers.{over}
use Rattle.canvas.specs.Kept.{IsKeptAlike, KeptLayer, Shows, is_within, pixel_in}

abbrev Pixels : Type 0
Pixels = List (Option Colour)

pub option_decides : {T : Type 0} (E : T → T → Bool) → ((a b : T) → Decides (E a b) (a ≡ b)) → (a b : Option T) → Decides (option_eq E a b) (a ≡ b)
option_decides E same None None = (λ t. refl, λ e. refl)
option_decides E same None (Some y) = (λ t. absurd (cc), λ e. absurd (cc))
option_decides E same (Some x) None = (λ t. absurd (cc), λ e. absurd (cc))
option_decides E same (Some x) (Some y) = (λ t. ap Some ((same x y).0 t), λ e. (same x y).1 (grind arith))

over_none : (p : Option Colour) → over p None ≡ p
over_none None = refl
over_none (Some c) = refl

common_test : (ow oh w h x y : ℕ) → x < w → y < h → is_within 0 (min ow w) 0 (min oh h) x y ≡ (nat_lt x ow && nat_lt y oh)
common_test ow oh w h x y in_x in_y = grind (arith, nat_tests)

pub resized_shows : (old blank new stored : Pixels) (ow oh w h cw ch : ℕ) → stored ≡ new → cw ≡ min ow w → ch ≡ min oh h → blank ≡ replicate (h * w) None → length new ≡ length blank
    → ((px py : ℕ) → px < w → pixel_in new w px py ≡ (if is_within 0 (0 + cw) 0 (0 + ch) px py then over (pixel_in old ow (0 + (px - 0)) (0 + (py - 0))) (pixel_in blank w px py) else pixel_in blank w px py))
    → Shows stored w h (λ x y. if nat_lt x ow && nat_lt y oh then pixel_in old ow x y else None)
resized_shows old blank new stored ow oh w h cw ch e is_cw is_ch is_blank long each = record {
  size = ap length e ∙ (long ∙ (ap length is_blank ∙ length-replicate (h * w) None));
  each = λ x y in_x in_y.
      let clear : pixel_in blank w x y ≡ None = ap (λ (p : Pixels). pixel_in p w x y) is_blank ∙ get_or-replicate (h * w) (y * w + x) None None (omega (arith, mul-add-lt y w x h in_y in_x, mul_comm h w)) in
      let at_x : 0 + (x - 0) ≡ x = omega arith in
      let at_y : 0 + (y - 0) ≡ y = omega arith in
      let columns : 0 + cw ≡ min ow w = omega arith in
      let rows : 0 + ch ≡ min oh h = omega arith in
      let in_part : is_within 0 (0 + cw) 0 (0 + ch) x y ≡ (nat_lt x ow && nat_lt y oh) =
      ap (λ (n : ℕ). is_within 0 n 0 (0 + ch) x y) columns ∙ (ap (λ (n : ℕ). is_within 0 (min ow w) 0 n x y) rows ∙ common_test ow oh w h x y in_x in_y) in
      ap (λ (p : Pixels). pixel_in p w x y) e
      ∙ (each x y in_x
      ∙ (ap (λ (p : Option Colour). if is_within 0 (0 + cw) 0 (0 + ch) x y then over (pixel_in old ow (0 + (x - 0)) (0 + (y - 0))) p else p) clear
      ∙ (ap (λ (p : Option Colour). if is_within 0 (0 + cw) 0 (0 + ch) x y then p else None) (over_none (pixel_in old ow (0 + (x - 0)) (0 + (y - 0))))
      ∙ (ap (λ (n : ℕ). if is_within 0 (0 + cw) 0 (0 + ch) x y then pixel_in old ow n (0 + (y - 0)) else None) at_x
      ∙ (ap (λ (n : ℕ). if is_within 0 (0 + cw) 0 (0 + ch) x y then pixel_in old ow x n else None) at_y
      ∙ ap (λ (t : Bool). if t then pixel_in old ow x y else None) in_part)))));
}

-- a part that was written through a borrow of the whole
pub written_back : (target items : Pixels) (n : ℕ) → n ≡ length target → take n (target ++ drop (length target) items) ≡ target
written_back target items n e = ap (λ (k : ℕ). take k (target ++ drop (length target) items)) e ∙ take-append_seam target (drop (length target) items)

-- ---- comparing
same_colour : (a b : Colour) → a.red ≡ b.red → a.green ≡ b.green → a.blue ≡ b.blue → a ≡ b
same_colour a b red green blue =
    let with_red : ℕ → Colour = λ n. record { red = n; green = a.green; blue = a.blue } in
    let with_green : ℕ → Colour = λ n. record { red = b.red; green = n; blue = a.blue } in
    let with_blue : ℕ → Colour = λ n. record { red = b.red; green = b.green; blue = n } in
    ap with_red red ∙ (ap with_green green ∙ ap with_blue blue)

red_is : (r s g h b c : ℕ) → (r == s && (g == h && b == c)) ≡ true → r ≡ s
red_is r s g h b c t = grind (arith, nat_tests)

green_is : (r s g h b c : ℕ) → (r == s && (g == h && b == c)) ≡ true → g ≡ h
green_is r s g h b c t = grind (arith, nat_tests)

blue_is : (r s g h b c : ℕ) → (r == s && (g == h && b == c)) ≡ true → b ≡ c
blue_is r s g h b c t = grind (arith, nat_tests)

all_are : (r s g h b c : ℕ) → r ≡ s → g ≡ h → b ≡ c → (r == s && (g == h && b == c)) ≡ true
all_are r s g h b c e f i = grind (arith, nat_tests)

pub colour_decides : (a b : Colour) → Decides (a.red == b.red && (a.green == b.green && a.blue == b.blue)) (a ≡ b)
colour_decides a b = (
  λ t. same_colour a b (red_is a.red b.red a.green b.green a.blue b.blue t) (green_is a.red b.red a.green b.green a.blue b.blue t) (blue_is a.red b.red a.green b.green a.blue b.blue t),
  λ e. all_are a.red b.red a.green b.green a.blue b.blue (ap (λ (c : Colour). c.red) e) (ap (λ (c : Colour). c.green) e) (ap (λ (c : Colour). c.blue) e),
)

some_width : (i h w : ℕ) → i < h * w → 0 < w
some_width i h w in_all = grind arith

row_and_column : (i w : ℕ) → 0 < w → i / w * w + i % w ≡ i
row_and_column i w some = omega (arith, mul_comm (i / w) w)

-- equal sizes and equal lists, or equal pixels at each place
alike_pixels : (l r : Pixels) (w h : ℕ) → length l ≡ h * w → length r ≡ h * w → ((x y : ℕ) → x < w → y < h → pixel_in l w x y ≡ pixel_in r w x y) → l ≡ r
alike_pixels l r w h size_l size_r each = ext_get_or None l r (size_l ∙ sym size_r) (λ i in_l.
    let in_all : i < h * w = omega arith in
    let some : 0 < w = some_width i h w in_all in
    let place : i / w * w + i % w ≡ i = row_and_column i w some in
    sym (ap (λ (k : ℕ). get_or l k None) place)
    ∙ (each (i % w) (i / w) (mod_below i w some) (div_below i w h some in_all)
    ∙ ap (λ (k : ℕ). get_or r k None) place))

pub alike_is : (l r : KeptLayer) (t : Bool) → l.width ≡ r.width → l.height ≡ r.height → length l.pixels ≡ l.height * l.width → length r.pixels ≡ r.height * r.width
    → (IsTrue t ↔ (l.pixels ≡ r.pixels)) → (IsTrue t ↔ IsKeptAlike l r)
alike_is l r t width height size_l size_r same = (
  λ is_true. record {
    width = width;
    height = height;
    pixels = λ x y in_x in_y. ap (λ (p : Pixels). pixel_in p l.width x y) (same.0 is_true) ∙ ap (λ (w : ℕ). pixel_in r.pixels w x y) width;
  },
  λ alike. same.1 (alike_pixels l.pixels r.pixels l.width l.height size_l (size_r ∙ sizes) (λ x y in_x in_y. alike.pixels x y in_x in_y ∙ ap (λ (w : ℕ). pixel_in r.pixels w x y) (sym width))),
)
  where
    sizes : r.height * r.width ≡ l.height * l.width
    sizes = ap (λ (h : ℕ). h * r.width) (sym height) ∙ ap (λ (w : ℕ). l.height * w) (sym width)

pub is_equal : (t : Bool) (a b : ℕ) → t ≡ true → t ≡ (a == b) → a ≡ b
is_equal t a b is_true e = grind (arith, nat_tests)
