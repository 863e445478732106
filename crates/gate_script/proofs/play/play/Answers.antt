use Rattle.std.proofs.Common.{List, ℕ, subst, refl, inl, inr, arith}
use Rattle.gate_script.specs.PlayOutcomes.{IsVerdict}
use Rattle.gate_script.proofs.PlayEndings.{no_memory_ran, told_ran, unread_ran}
use Rattle.gate_script.proofs.play.play.Goals as goal

-- it is told, or its fault is
pub returns-in-Ok-judge-clause-outcome : goal.returns-in-Ok-judge-clause-outcome
returns-in-Ok-judge-clause-outcome g c =
    let v = subst (λ (b : List ℕ). IsVerdict c.args.form b c.in-Ok-judge.verdict.status c.in-Ok-judge.verdict.text.items) c.deref.ensures.value c.in-Ok-judge.ensures in
    told_ran c.args.form _ c.in-Ok.bytes.items c.in-Ok-judge.verdict.text.items c.in-Ok-judge.verdict.status c.tell.result _ _ _ _ c.in-Ok.ensures.read.0 c.in-Ok.ensures.read.1 v c.tell.ensures.ended

-- a fault of the source
pub returns-in-Err-ReadFault-clause-outcome : goal.returns-in-Err-ReadFault-clause-outcome
returns-in-Err-ReadFault-clause-outcome g c = unread_ran c.args.form _ _ _ c.in-Err-ReadFault.ensures.unread.0 c.in-Err-ReadFault.ensures.unread.1

-- no memory for what is read
pub returns : goal.returns
returns g c = record {
  outcome = no_memory_ran c.args.form _ _ _ c.in-Err.ensures.unread.0 c.in-Err.ensures.unread.1;
  only = inr (inr (inr (inl refl)));
  read_fault = λ e. absurd (omega (arith, e));
  write_fault = λ e. absurd (omega (arith, e));
  later_source = c.read_all.ensures.later;
  later_answers = omega arith;
}
