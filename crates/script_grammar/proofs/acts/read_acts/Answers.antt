use Rattle.std.proofs.Common.{length, ap, arith}
use Rattle.script_grammar.proofs.ActsLaws.{few_acts, few_passed, next_asks, on_err, one_too_many, reads_one}
use Rattle.script_grammar.proofs.acts.read_acts.Goals as goal

pub returns-then-count-eq-MOST_INSTRUCTIONS-clause-reading :
    goal.returns-then-count-eq-MOST_INSTRUCTIONS-clause-reading
returns-then-count-eq-MOST_INSTRUCTIONS-clause-reading c =
    one_too_many c.args.text.now c.loop-at.at c.loop-at.count c.loop-at.acts.items c.loop-at.passed c.loop-at.invariant.so_far c.if-count-eq-MOST_INSTRUCTIONS.true c.in-Whole.frame c.in-Whole.size c.in-Whole.ensures.whole

pub keep-requires : goal.keep-requires
keep-requires c = record {
  room =
      let few = few_passed c.args.text.now c.loop-at.at c.loop-at.count c.loop-at.acts.items c.loop-at.passed c.loop-at.invariant.so_far in
      omega (arith, few, c.loop-at.invariant.few, c.if-count-eq-MOST_INSTRUCTIONS.false);
}

pub returns-in_err-keep-in-Whole-clause-wanting : goal.returns-in_err-keep-in-Whole-clause-wanting
returns-in_err-keep-in-Whole-clause-wanting c =
    on_err c.from_residual.result _
    (next_asks c.args.text.now c.loop-at.at c.loop-at.count c.loop-at.acts.items c.loop-at.passed c.loop-at.invariant.so_far (omega (arith, c.loop-at.invariant.few, c.if-count-eq-MOST_INSTRUCTIONS.false)) c.in-Whole.frame c.in-Whole.size c.read_client.result c.in-Whole.ensures.whole c.read_client.ensures
    c.in_err-keep-in-Whole.ensures.wanting)

pub loop-at-preserved : goal.loop-at-preserved
loop-at-preserved c =
    record {
      within = omega (arith, c.in-Whole.ensures.whole.within, c.loop-at-test.true);
      few = omega (arith, c.loop-at.invariant.few, c.if-count-eq-MOST_INSTRUCTIONS.false);
      so_far =
          rw (c.in_ok-keep-in-Whole.ensures.acts, c.in_ok-keep-in-Whole.ensures.passed, c.read_client.ensures)
          (reads_one c.args.text.now c.loop-at.at c.loop-at.count c.loop-at.acts.items c.loop-at.passed c.loop-at.invariant.so_far c.in-Whole.frame c.in-Whole.size c.in-Whole.ensures.whole);
    }

pub returns-clause-few : goal.returns-clause-few
returns-clause-few c = record {
  few =
      let few = few_acts c.args.text.now c.loop-at.at c.loop-at.count c.loop-at.acts.items c.loop-at.passed c.loop-at.invariant.so_far in
      omega (arith, few, c.loop-at.invariant.few, ap length c.of.ensures);
}
