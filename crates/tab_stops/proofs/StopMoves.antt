-- Moves from tab stop to tab stop.
use Rattle.std.proofs.Common.{◌≡◌, ℕ, zero, suc, ◌-◌, ◌<◌, List, length, Bool, refl, ap, ◌∙◌, arith}
use Rattle.gate_model.specs.terminal.TabStops.{stop_above, stop_below, stops_above, stops_below}

-- a move, and those that are left after it
pub above_more : (stops : List Bool) (n x : ℕ) → 0 < n → stops_above stops (n - 1) (stop_above stops x) ≡ stops_above stops n x
unfolding stops_above
above_more stops zero x lt = absurd (omega (arith, lt))
above_more stops (suc n) x lt = let e : suc n - 1 ≡ n = omega arith in ap (λ (k : ℕ). stops_above stops k (stop_above stops x)) e

pub below_more : (stops : List Bool) (n x : ℕ) → 0 < n → stops_below stops (n - 1) (stop_below stops x) ≡ stops_below stops n x
unfolding stops_below
below_more stops zero x lt = absurd (omega (arith, lt))
below_more stops (suc n) x lt = let e : suc n - 1 ≡ n = omega arith in ap (λ (k : ℕ). stops_below stops k (stop_below stops x)) e

-- no moves
pub above_none : (stops : List Bool) (x : ℕ) → stops_above stops 0 x ≡ x
unfolding stops_above
above_none stops x = refl

pub below_none : (stops : List Bool) (x : ℕ) → stops_below stops 0 x ≡ x
unfolding stops_below
below_none stops x = refl

-- from the last column a move leads to it, and from the first one to that
pub above_stays : (stops : List Bool) (n x : ℕ) → x ≡ length stops - 1 → stops_above stops n x ≡ x
unfolding stops_above
above_stays stops zero x e = refl
above_stays stops (suc n) x e =
    let still : stop_above stops x ≡ x = omega arith in
    ap (λ (k : ℕ). stops_above stops n k) still ∙ above_stays stops n x e

pub below_stays : (stops : List Bool) (n x : ℕ) → x ≡ 0 → stops_below stops n x ≡ x
unfolding stops_below
below_stays stops zero x e = refl
below_stays stops (suc n) x e =
    let still : stop_below stops x ≡ x = omega arith in
    ap (λ (k : ℕ). stops_below stops n k) still ∙ below_stays stops n x e
