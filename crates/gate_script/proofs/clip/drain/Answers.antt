use Rattle.std.proofs.Common.{take, ◌∙◌, arith}
use Rattle.gate_script.proofs.ClipLaws.{pull_failed, pull_next}
use Rattle.gate_script.proofs.clip.drain.Goals as goal

-- a write failed
pub returns-in-Err-clause-written : goal.returns-in-Err-clause-written
returns-in-Err-clause-written g c = pull_failed c.args.paster.now c.loop-count.paster c.loop-count.paster _ (take c.loop-count.count c.loop-count.keys) _ _ _ c.loop-count.invariant.pulled c.in-Err.ensures.part

pub loop-count-preserved : goal.loop-count-preserved
loop-count-preserved g c =
    let pull = c.pull-count-in-Ok in
    let i = c.loop-count.invariant in
    record {
      some = omega (arith, i.some);
      fits = omega (arith, pull.ensures.within);
      pulled = pull_next c.args.paster.now c.loop-count.paster pull.new.self (take c.loop-count.count c.loop-count.keys) (take pull.result pull.new.into) _ _ _ i.pulled c.in-Ok.ensures.ok pull.ensures.gave;
      ended = pull.ensures.ended ∙ i.ended;
      room = pull.ensures.room;
      over = λ none was. pull.ensures.over none (i.ended ∙ was);
      later = omega (arith, i.later, c.write_all.ensures.faults.1);
    }
