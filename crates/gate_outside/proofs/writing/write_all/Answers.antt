use Rattle.std.proofs.Common.{rules, arith}
use Rattle.gate_outside.proofs.Moved.{gained-front}
use Rattle.gate_outside.proofs.writing.write_all.Goals as goal

pub loop-at-preserved : goal.loop-at-preserved
loop-at-preserved g c = record {
  within = search rules;
  front = gained-front _ _ _ c.loop-at.at c.in_ok-at.field-0 c.args.text.now c.loop-at.invariant.front c.in_ok-at.ensures.ok;
  later = omega (arith, c.loop-at.invariant.later, c.write.ensures.faults.1);
}
