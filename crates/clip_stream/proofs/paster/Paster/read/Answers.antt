use Rattle.std.proofs.Common.{[], Bool, Ok, ap, arith}
use Rattle.clip_stream.proofs.Goings.{far_keeps, far_then, on_err, went_gave, went_then}
use Rattle.clip_stream.proofs.paster.Paster.read.Goals as goal

pub returns-in_err-read_more-clause-failed : goal.returns-in_err-read_more-clause-failed
returns-in_err-read_more-clause-failed g c =
    let left = g.S.Source.left in
    let first = left c.args.source.now in
    let before = left c.loop-turn.source in
    let w = far_keeps c.loop-turn._turn first before c.args.self.now c.loop-turn.self c.settle.new.self c.loop-turn.invariant.went c.settle.ensures.keeps c.settle.ensures.ended in
    on_err c.from_residual.result _ (went_then first before (left c.read_more.new.source) c.args.self.now c.settle.new.self c.read_more.new.self [] [] w.0 c.read_more.ensures.went)

pub returns-then-not-branch-clause-went : goal.returns-then-not-branch-clause-went
returns-then-not-branch-clause-went g c =
    let left = g.S.Source.left in
    let first = left c.args.source.now in
    let before = left c.loop-turn.source in
    let now = left c.read_more.new.source in
    let w = far_keeps c.loop-turn._turn first before c.args.self.now c.loop-turn.self c.settle.new.self c.loop-turn.invariant.went c.settle.ensures.keeps c.settle.ensures.ended in
    went_then first now now c.args.self.now c.read_more.new.self c.give-then-not-branch.new.self [] _ (went_then first before now c.args.self.now c.settle.new.self c.read_more.new.self [] [] w.0 c.read_more.ensures.went)
    (went_gave now c.read_more.new.self c.give-then-not-branch.new.self _ c.give-then-not-branch.ensures.gave c.give-then-not-branch.ensures.ended)

pub loop-turn-preserved : goal.loop-turn-preserved
loop-turn-preserved g c =
    let left = g.S.Source.left in
    let i = c.loop-turn.invariant in
    let first = left c.args.source.now in
    let before = left c.loop-turn.source in
    let w = far_keeps c.loop-turn._turn first before c.args.self.now c.loop-turn.self c.settle.new.self i.went c.settle.ensures.keeps c.settle.ensures.ended in
    record {
      went = far_then c.loop-turn._turn 1 first before (left c.read_more.new.source) c.args.self.now c.settle.new.self c.read_more.new.self w (c.in_ok-read_more.ensures.came (ap (λ (more : Bool). Ok more) c.if-not-branch.false));
      into = i.into;
      later = omega (arith, i.later, c.read_more.ensures.faults.1);
      few = λ f. c.read_more.ensures.few (i.few f);
    }

pub returns-clause-gave_up : goal.returns-clause-gave_up
returns-clause-gave_up g c e = ((c.loop-turn.invariant.went.0, omega (arith, c.loop-turn.invariant.went.1)), c.loop-turn.invariant.into)
