use Rattle.std.proofs.Common.{arith}
use Rattle.std.proofs.lemmas.Result.{err_from_is_err_and}
use Rattle.guac_framing.proofs.Steps.{chars_with, chars_in, more_chars, later_end}
use Rattle.guac_framing.proofs.value.read_value.Goals as goal

pub returns-in_err-at-clause-stop : goal.returns-in_err-at-clause-stop
returns-in_err-at-clause-stop c = λ values i.
    let h = chars_with c.args.bytes.now c.args.start c.loop-left.at c.args.count c.loop-left.left c.loop-left-test.true c.loop-left.invariant.chars in
    let p = err_from_is_err_and c.from_residual.result c.from_residual.ensures.1 in
    rw (p.1, p.2) (c.in_err-at.ensures.stop values h.chars (chars_in c.args.bytes.now c.args.start c.loop-left.at c.args.count _ values i h))

pub loop-left-preserved : goal.loop-left-preserved
loop-left-preserved c =
    let h = chars_with c.args.bytes.now c.args.start c.loop-left.at c.args.count c.loop-left.left c.loop-left-test.true c.loop-left.invariant.chars in
    let k = c.in_ok-at.ensures.character in
    record {
      chars = more_chars c.args.bytes.now c.args.start c.loop-left.at c.in_ok-at.at c.args.count _ k.0 h k.1 k.2;
      within = c.in_ok-at.ensures.end.0;
      room = c.in_ok-at.ensures.end.1;
      behind = omega (arith, c.loop-left.invariant.behind, later_end c.args.bytes.now c.loop-left.at c.in_ok-at.at k c.loop-left.invariant.within c.in_ok-at.ensures.end.0);
    }
