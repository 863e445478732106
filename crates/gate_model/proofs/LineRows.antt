-- Worked facts of line drawing, computed from the definitions.
use Rattle.std.proofs.Common.{◌≡◌, ℕ, ◌-◌, List, Bool, true, false, refl}
use Rattle.std.specs.Prelude.{◌&&◌, ◌||◌, ◌==◌, not, nat_le, if◌then◌else◌}
use Rattle.std.specs.List.{list_all, list_any, range_with_len}
use Rattle.gate_model.specs.picture.Lines.{Bar, Drawing, Lines, Curve, light, heavy, double, is_on, drawing_bars, drawings}

-- a line of this weight passes an edge so: at these pixels of the eight around its middle, and no other
passes : ℕ → ℕ → Bool
passes weight k =
    if weight == light then k == 3 || k == 4 else (
    if weight == heavy then nat_le 2 k && nat_le k 5 else (
    if weight == double then k == 2 || k == 5 else false))

agree : Bool → Bool → Bool
agree true b = b
agree false b = not b

edge : (ℕ → Bool) → ℕ → ℕ → ℕ → Bool
edge has extent start weight = list_all (λ k. agree (has k) (nat_le start k && passes weight (k - start))) (range_with_len 0 extent)

-- at each edge a face has just the pixels that its arm there passes it with, so two arms that meet at an edge join, and all
-- lines with other arms have other pictures
reaches : List Bar → ℕ → ℕ → ℕ → ℕ → Bool
reaches bs l u r d =
    edge (λ y. list_any (is_on 0 y) bs) 16 4 l && edge (λ x. list_any (is_on x 0) bs) 8 0 u && edge (λ y. list_any (is_on 7 y) bs) 16 4 r && edge (λ x. list_any (is_on x 15) bs) 8 0 d

joins : Drawing → Bool
joins (Lines l u r d) = reaches (drawing_bars (Lines l u r d)) l u r d
joins (Curve l u r d) = reaches (drawing_bars (Curve l u r d)) l u r d
joins d = true

all_join : list_all joins drawings ≡ true
unfolding joins reaches edge agree passes
all_join = refl
