-- The pen after the numbers from a place on.
use Rattle.std.proofs.Common.{◌≡◌, ℕ, zero, suc, ◌+◌, ◌-◌, ◌<◌, List, ◌∷◌, length, drop, get_or, Bool, true, false, refl, ap, ◌∙◌, add-one, drop-cons, arith}
use Rattle.std.specs.Prelude.{if◌then◌else◌}
use Rattle.gate_model.specs.terminal.Arguments.{choice}
use Rattle.gate_model.specs.terminal.Pens.{chosen_index, colour_size, is_colour, styled_after, styled_by, with_colour}
use Rattle.gate_model.specs.terminal.Terminal.{Pen}

at_place : (skipped : ℕ) (pen : Pen) (ps : List ℕ) (i : ℕ) → i < length ps → styled_after skipped pen (drop i ps) ≡ styled_after skipped pen (get_or ps i 0 ∷ drop (i + 1) ps)
at_place skipped pen ps i lt =
    let e : drop i ps ≡ get_or ps i 0 ∷ drop (i + 1) ps = rw (add-one, drop-cons ps i 0) refl in
    ap (λ (qs : List ℕ). styled_after skipped pen qs) e

-- a number that is skipped
pub after_skipped : (skipped : ℕ) (pen : Pen) (ps : List ℕ) (i : ℕ) → i < length ps → 0 < skipped → styled_after skipped pen (drop i ps) ≡ styled_after (skipped - 1) pen (drop (i + 1) ps)
after_skipped zero pen ps i lt some = absurd (omega (arith, some))
after_skipped (suc n) pen ps i lt some =
    let e : n ≡ suc n - 1 = omega arith in
    at_place (suc n) pen ps i lt ∙ ap (λ (k : ℕ). styled_after k pen (drop (i + 1) ps)) e

by_test : (b : Bool) (pen : Pen) (p : ℕ) (ps : List ℕ) → is_colour p ≡ b
    → styled_after 0 pen (p ∷ ps) ≡ (if b then styled_after (colour_size ps) (with_colour p (chosen_index ps) pen) ps else styled_after 0 (styled_by (choice p) pen) ps)
by_test b pen p ps e = ap (λ (v : Bool). if v then styled_after (colour_size ps) (with_colour p (chosen_index ps) pen) ps else styled_after 0 (styled_by (choice p) pen) ps) e

-- a number that begins a colour
pub after_colour : (pen : Pen) (ps : List ℕ) (i : ℕ) → i < length ps → is_colour (get_or ps i 0) ≡ true
    → styled_after 0 pen (drop i ps) ≡ styled_after (colour_size (drop (i + 1) ps)) (with_colour (get_or ps i 0) (chosen_index (drop (i + 1) ps)) pen) (drop (i + 1) ps)
after_colour pen ps i lt e = at_place 0 pen ps i lt ∙ by_test true pen (get_or ps i 0) (drop (i + 1) ps) e

-- any other number
pub after_number : (pen : Pen) (ps : List ℕ) (i : ℕ) → i < length ps → is_colour (get_or ps i 0) ≡ false → styled_after 0 pen (drop i ps) ≡ styled_after 0 (styled_by (choice (get_or ps i 0)) pen) (drop (i + 1) ps)
after_number pen ps i lt e = at_place 0 pen ps i lt ∙ by_test false pen (get_or ps i 0) (drop (i + 1) ps) e
