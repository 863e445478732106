-- Rows of pixels that are kept one after the other.
use Rattle.std.proofs.Common.{◌≡◌, ℕ, ◌+◌, ◌-◌, ◌*◌, ◌<◌, ◌≤◌, inl, inr, List, ◌++◌, length, take, drop, get_or, Bool, true, false, if◌then◌else◌, Option, None, refl, sym, ap, ◌∙◌, arith, length-append, length-take, length-drop}
use Rattle.std.proofs.lemmas.Bool.Decides.{nat_tests}
use Rattle.std.proofs.lemmas.List.{get_or-append_right, get_or_append_left, get_or-take, get_or-drop}
use Rattle.std.proofs.lemmas.Nat.{mul-add-lt, rows}
use Rattle.std.proofs.Math.Nat.{mul_comm}
use Rattle.std.proofs.lemmas.Bool.{cases_order, cases_lt}
use Rattle.gate_model.specs.declared.colour.Colour.{Colour}
use Rattle.canvas.specs.Kept.{is_within, pixel_in, with_part}

abbrev Pixels : Type 0
Pixels = List (Option Colour)

part_before : (from to : ℕ) (run items : Pixels) (i : ℕ) (d : Option Colour) → from ≤ length items → i < from → get_or (with_part from to run items) i d ≡ get_or items i d
part_before from to run items i d fits before =
    get_or_append_left (take from items ++ run) (drop to items) d i (omega (arith, length-append (take from items) run, length-take from items))
    ∙ (get_or_append_left (take from items) run d i (omega (arith, length-take from items))
    ∙ get_or-take from items i d before)

part_inside : (from to : ℕ) (run items : Pixels) (i : ℕ) (d : Option Colour) → from ≤ length items → from ≤ i → i < from + length run → get_or (with_part from to run items) i d ≡ get_or run (i - from) d
part_inside from to run items i d fits after inside =
    get_or_append_left (take from items ++ run) (drop to items) d i (omega (arith, length-append (take from items) run, length-take from items))
    ∙ get_or-append_right (take from items) run from i d (omega (arith, length-take from items)) after

part_after : (from to : ℕ) (run items : Pixels) (i : ℕ) (d : Option Colour) → from ≤ length items → from + length run ≡ to → to ≤ i → get_or (with_part from to run items) i d ≡ get_or items i d
part_after from to run items i d fits long after =
    get_or-append_right (take from items ++ run) (drop to items) to i d (omega (arith, length-append (take from items) run, length-take from items)) after
    ∙ (get_or-drop to items (i - to) d
    ∙ (let e : to + (i - to) ≡ i = omega arith in ap (λ (k : ℕ). get_or items k d) e))

pub length-part : (from to : ℕ) (run items : Pixels) → from + length run ≡ to → to ≤ length items → length (with_part from to run items) ≡ length items
length-part from to run items long fits =
    omega (arith, length-append (take from items ++ run) (drop to items), length-append (take from items) run, length-take from items, length-drop to items)

-- the places of a row lie before those of a later row
pub row_before : (y r w x : ℕ) → y < r → x < w → y * w + x < r * w
row_before y r w x above in_x = omega (arith, mul-add-lt y w x r above in_x, mul_comm r w)

pub row_fits : (r h w : ℕ) → r < h → r * w + w ≤ h * w
row_fits r h w in_r = grind (arith, rows)

pub then_case : {X : Type 0} (b : Bool) (x y : X) → b ≡ true → (if b then x else y) ≡ x
then_case true x y e = refl
then_case false x y e = absurd (cc)

pub else_case : {X : Type 0} (b : Bool) (x y : X) → b ≡ false → (if b then x else y) ≡ y
else_case true x y e = absurd (cc)
else_case false x y e = refl

pub is_in_row : (left right r x y : ℕ) → left ≤ right → y ≡ r → left ≤ x → x < right → is_within left right r (r + 1) x y ≡ true
is_in_row left right r x y ordered e low high = grind (arith, nat_tests)

pub is_before_row : (left right r x y : ℕ) → left ≤ right → y < r → is_within left right r (r + 1) x y ≡ false
is_before_row left right r x y ordered e = grind (arith, nat_tests)

pub is_after_row : (left right r x y : ℕ) → left ≤ right → r < y → is_within left right r (r + 1) x y ≡ false
is_after_row left right r x y ordered e = grind (arith, nat_tests)

pub is_left : (left right r x y : ℕ) → left ≤ right → x < left → is_within left right r (r + 1) x y ≡ false
is_left left right r x y ordered e = grind (arith, nat_tests)

pub is_right : (left right r x y : ℕ) → left ≤ right → right ≤ x → is_within left right r (r + 1) x y ≡ false
is_right left right r x y ordered e = grind (arith, nat_tests)

pub row_left : (left right r x y : ℕ) → left ≤ right → is_within left right r (r + 1) x y ≡ true → left ≤ x
row_left left right r x y ordered t = grind (arith, nat_tests)

pub row_right : (left right r x y : ℕ) → left ≤ right → is_within left right r (r + 1) x y ≡ true → x < right
row_right left right r x y ordered t = grind (arith, nat_tests)

pub row_is : (left right r x y : ℕ) → left ≤ right → is_within left right r (r + 1) x y ≡ true → y ≡ r
row_is left right r x y ordered t = grind (arith, nat_tests)

pub is_below : (left right top bottom x y : ℕ) → top ≤ bottom → bottom ≤ y → is_within left right top bottom x y ≡ false
is_below left right top bottom x y ordered e = grind (arith, nat_tests)

-- one row's run, read at each place
pub row_pixel : (pixels run : Pixels) (w left right r : ℕ) → left ≤ right → right ≤ w → r * w + right ≤ length pixels → length run ≡ right - left
    → (x y : ℕ) → x < w
    → pixel_in (with_part (r * w + left) (r * w + right) run pixels) w x y ≡ (if is_within left right r (r + 1) x y then get_or run (x - left) None else pixel_in pixels w x y)
row_pixel pixels run w left right r ordered fits room long x y in_x =
    let from = r * w + left in
    let to = r * w + right in
    let inside = get_or run (x - left) None in
    let outside = pixel_in pixels w x y in
    elim (cases_order y r) [
      | inl same ↦
          let place : y * w + x ≡ r * w + x = ap (λ (n : ℕ). n * w + x) same in
          elim (cases_lt x left) [
            | inl before ↦
                part_before from to run pixels (y * w + x) None (omega arith) (omega arith)
                ∙ sym (else_case (is_within left right r (r + 1) x y) inside outside (is_left left right r x y ordered before))
            | inr low ↦ elim (cases_lt x right) [
              | inl high ↦
                  let e : y * w + x - from ≡ x - left = omega arith in
                  part_inside from to run pixels (y * w + x) None (omega arith) (omega arith) (omega arith)
                  ∙ (ap (λ (n : ℕ). get_or run n None) e
                  ∙ sym (then_case (is_within left right r (r + 1) x y) inside outside (is_in_row left right r x y ordered same low high)))
              | inr after ↦
                  part_after from to run pixels (y * w + x) None (omega arith) (omega arith) (omega arith)
                  ∙ sym (else_case (is_within left right r (r + 1) x y) inside outside (is_right left right r x y ordered after))
            ]
          ]
      | inr (inl above) ↦
          let before : y * w + x < r * w = row_before y r w x above in_x in
          part_before from to run pixels (y * w + x) None (omega arith) (omega arith)
          ∙ sym (else_case (is_within left right r (r + 1) x y) inside outside (is_before_row left right r x y ordered above))
      | inr (inr below) ↦
          let after : r * w + w ≤ y * w = row_fits r y w below in
          part_after from to run pixels (y * w + x) None (omega arith) (omega arith) (omega arith)
          ∙ sym (else_case (is_within left right r (r + 1) x y) inside outside (is_after_row left right r x y ordered below))
    ]
