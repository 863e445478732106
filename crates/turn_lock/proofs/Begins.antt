-- The rule holds at the making.
use Rattle.std.proofs.Common.{◌≡◌, ⊎_elim, ℕ, zero, suc, ◌<◌, Bool, true, false, List, [], ◌∷◌, Option, Some, length, refl, ap, sym, ◌∙◌, subst, arith}
use Rattle.std.specs.Prelude.{Contains, if◌then◌else◌}
use mathlib.Core.Option.{some, some-injective, some-ne-none}
use Rattle.atomic_table.specs.Table.{opening}
use Rattle.turn_lock.specs.Places.{NoneTwice, IsAt, IsUnmarked, is_zero, zero_places}
use Rattle.turn_lock.specs.Rule.{Each, EachTwo, Knows, Apart, Ruled}
use Rattle.turn_lock.specs.Views.{beginning, HasPlaces}
use Rattle.turn_lock.proofs.Elements.{later_refl, later_none, contains_none, contains_head, contains_tail, contains_cases}

choose : (P : List ℕ → Type 0) (b : Bool) (xs ys : List ℕ) → (b ≡ true → P xs) → (b ≡ false → P ys) → P (if b then xs else ys)
choose P true xs ys f g = f refl
choose P false xs ys f g = g refl

module _ {A : Type 0} where
  each_one : (P : A → Type 0) (x : A) → P x → Each P (x ∷ [])
  each_one P x p zero y at = subst P (some-injective x y at) p
  each_one P x p (suc i) y at = absurd (some-ne-none y (sym at))

  two_one : (R : A → A → Type 0) (x : A) → EachTwo R (x ∷ [])
  two_one R x zero zero y z ne a b = absurd (ne refl)
  two_one R x zero (suc j) y z ne a b = absurd (some-ne-none z (sym b))
  two_one R x (suc i) j y z ne a b = absurd (some-ne-none y (sym a))

module _ {E : Type 0} (mark : E → Option ℕ) where
  zero_within : (h : List E) (p : ℕ) → Contains (zero_places mark h) p → p < length h
  zero_within [] p c = absurd (contains_none p c)
  zero_within (x ∷ older) p c = choose (λ l. Contains l p → p < length (x ∷ older)) (is_zero (mark x)) (length older ∷ zero_places mark older) (zero_places mark older)
      (λ _ d. ⊎_elim (λ e. omega arith) (λ t. let z = zero_within older p t in omega arith) (contains_cases (length older) p (zero_places mark older) d))
      (λ _ d. let z = zero_within older p d in omega arith)
      c

  zero_once : (h : List E) → NoneTwice (zero_places mark h)
  zero_once [] = tt
  zero_once (x ∷ older) = choose NoneTwice (is_zero (mark x)) (length older ∷ zero_places mark older) (zero_places mark older)
      (λ _. ((λ c. let z = zero_within older (length older) c in absurd (omega arith)), zero_once older))
      (λ _. zero_once older)

  zero_owned : (h : List E) (p : ℕ) (e : E) → IsAt h p e → mark e ≡ Some 0 → Contains (zero_places mark h) p
  zero_owned [] p e a is = absurd a
  zero_owned (x ∷ older) p e a is = choose (λ l. Contains l p) (is_zero (mark x)) (length older ∷ zero_places mark older) (zero_places mark older)
      (λ _. ⊎_elim (λ t. subst (Contains (length older ∷ zero_places mark older)) (sym t.0) (contains_head (length older) (zero_places mark older))) (λ t. contains_tail (length older) p (zero_places mark older) (zero_owned older p e t is)) a)
      (λ no. ⊎_elim (λ t. absurd (cc (no, ap is_zero (ap mark t.1 ∙ is)))) (λ t. zero_owned older p e t is) a)

  -- the own places of the first pass
  pub first_places : (h : List E) → HasPlaces mark (beginning mark h)
  first_places h = record {
    places = record { within = zero_within h; once = zero_once h };
    owns = λ m p e a b c. zero_owned h p e b (c ∙ sym a);
  }

module _ {X E : Type 0} (stands : X → List E → Type 0) (mark : E → Option ℕ) where
  pub begins : (x : X) (h : List E) (n : ℕ) → stands x h → IsUnmarked mark h → n ≡ length h → Ruled stands mark (opening (n ∷ 0 ∷ 0 ∷ []) (Some x ∷ []) (beginning mark h))
  begins x h n right unmarked long = record {
    history = h;
    next = 0;
    serving = 0;
    value = some x;
    given = [];
    words = ap (λ (z : ℕ). z ∷ 0 ∷ 0 ∷ []) long;
    slots = refl;
    order = omega arith;
    bounded = omega arith;
    each = each_one (Knows mark h 0 0 false []) (beginning mark h) record {
      seen = later_refl h;
      met = later_none h;
      known = omega arith;
      ticket = λ t e. absurd (cc);
      inside = λ e. absurd (cc);
      places = (first_places mark h).places;
      owns = (first_places mark h).owns;
      first = λ ms e. (refl, cc);
      other = λ e. absurd (cc);
    };
    apart = two_one Apart (beginning mark h);
    stood = λ y e. subst (λ (z : X). stands z h) (some-injective x y e) right;
    holder = λ e. absurd (cc);
    first = (0, beginning mark h, refl, refl);
    no_zero = contains_none 0;
    marked = λ p m e a b not_zero. absurd (not_zero (unmarked p m e a b));
  }
