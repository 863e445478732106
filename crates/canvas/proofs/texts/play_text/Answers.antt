use Rattle.std.proofs.Common.{◌<◌, drop, arith}
use Rattle.canvas.proofs.TextLaws.{all_played, left_behind, on_err, part_played, some_counted}
use Rattle.canvas.proofs.texts.play_text.Goals as goal

pub returns-in_err-count-clause-stopped : goal.returns-in_err-count-clause-stopped
returns-in_err-count-clause-stopped c = λ is m r e s. on_err c.from_residual.result _ (part_played is m (drop c.loop-at.at c.args.text.now) c.loop-at.canvas c.play_first.new.canvas (c.loop-at.invariant.played is m r e s) c.in_err-count.ensures.unchanged)

pub returns-then-count-eq0-clause-played : goal.returns-then-count-eq0-clause-played
returns-then-count-eq0-clause-played c = λ is m r e s.
    let some : 0 < c.in_ok-count.count = some_counted is m c.args.text.now c.loop-at.at c.in_ok-count.count c.loop-at.canvas c.loop-at-test.true (c.loop-at.invariant.played is m r e s) c.in_ok-count.ensures.count in
    absurd (omega (arith, some, c.if-count-eq0.true))

pub loop-at-preserved : goal.loop-at-preserved
loop-at-preserved c = record {
  within = omega (arith, c.in_ok-count.ensures.within, c.loop-at.invariant.within);
  played = λ is m r e s. left_behind is m c.args.text.now c.loop-at.at c.in_ok-count.count c.loop-at.canvas c.play_first.new.canvas c.loop-at-test.true (c.loop-at.invariant.played is m r e s) c.in_ok-count.ensures.count c.in_ok-count.ensures.played;
}

pub returns-then-count-eq0-clause-whole : goal.returns-then-count-eq0-clause-whole
returns-then-count-eq0-clause-whole c = λ is m r e s.
    let some : 0 < c.in_ok-count.count = some_counted is m c.args.text.now c.loop-at.at c.in_ok-count.count c.loop-at.canvas c.loop-at-test.true (c.loop-at.invariant.played is m r e s) c.in_ok-count.ensures.count in
    absurd (omega (arith, some, c.if-count-eq0.true))

pub returns-clause-whole : goal.returns-clause-whole
returns-clause-whole c = λ is m r e s. omega (arith, c.loop-at-test.false, c.loop-at.invariant.within)

pub returns-clause-played : goal.returns-clause-played
returns-clause-played c = λ is m r e s. all_played is m c.args.text.now c.loop-at.at c.loop-at.canvas (omega (arith, c.loop-at-test.false)) (c.loop-at.invariant.played is m r e s)
