use Rattle.std.proofs.Common.{◌≡◌, ◌≤◌, arith, length, ap, refl, sym, ◌∙◌}
use Rattle.canvas.proofs.Comparing.{all_same, alike_place}
use Rattle.canvas.proofs.canvas.Canvas.same.Goals as goal

pub returns-then-not-is_alike : goal.returns-then-not-is_alike
returns-then-not-is_alike c = λ m n of_m of_n.
    (λ t. absurd (cc), λ same. sym c.if-not-is_alike.true ∙ c.is_alike.ensures.1 (alike_place c.args.self.now c.args.other.now c.loop-place.place m n of_m of_n same))

pub returns : goal.returns
returns c = λ m n of_m of_n.
    let left : length c.args.self.now ≡ c.len.result = ap length (sym c.self.view_is) ∙ (sym c.self.inside.layers.ok.0 ∙ sym c.len.ensures) in
    let right : length c.args.other.now ≡ c.len-2.result = ap length (sym c.other.view_is) ∙ (sym c.other.inside.layers.ok.0 ∙ sym c.len-2.ensures) in
    let past_left : length c.args.self.now ≤ c.loop-place.place = omega (arith, left, c.max-place-end.ensures, c.loop-place-test.false) in
    let past_right : length c.args.other.now ≤ c.loop-place.place = omega (arith, right, c.max-place-end.ensures, c.loop-place-test.false) in
    (λ t. all_same c.args.self.now c.args.other.now c.loop-place.place past_left past_right c.loop-place.invariant m n of_m of_n, λ same. refl)
