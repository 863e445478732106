use Rattle.std.proofs.Common.{ℕ, get_or, ◌∙◌, ◌+◌, ◌-◌, ◌*◌, ap, sym, arith}
use Rattle.numerals.proofs.NumberLaws.{number_of-take, digits_of, power_more}
use Rattle.numerals.proofs.number_of.Goals as goal

pub loop-digit-preserved : goal.loop-digit-preserved
loop-digit-preserved c =
    let d = (digits_of c.args.digits.now c.requires).digits c.loop-digit.digit-index (omega arith) in
    record {
      value = ap (λ (r : ℕ). 10 * c.loop-digit.number + r) c.from.ensures ∙ ap (λ (n : ℕ). 10 * n + (get_or c.args.digits.now c.loop-digit.digit-index 0 - 48)) c.loop-digit.invariant.value ∙ sym (number_of-take c.args.digits.now c.loop-digit.digit-index (omega arith));
      small = omega (arith, c.loop-digit.invariant.small, d.0, d.1, power_more c.loop-digit.digit-index);
    }
