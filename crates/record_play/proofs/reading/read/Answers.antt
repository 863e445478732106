use Rattle.std.proofs.Common.{◌≡◌, ℕ, ◌+◌, List, ◌∷◌, length, arith, sym, ap, subst, refl, inl, inr, ◌∙◌}
use Rattle.std.specs.Prelude.{Bool, Option, Some, Ok, min}
use Rattle.gate_model.specs.declared.instr.Instr.{Instr}
use Rattle.record_play.specs.Indexes.{IsAt}
use Rattle.record_play.specs.Recorded.{IsRefused, MayFollow, Placed}
use Rattle.record_play.proofs.Streams.{bad_there, ended, one_more, refused_there, told_no, told_yes, too_long}
use Rattle.record_play.proofs.reading.read.Goals as goal
use Rattle.record_play.proofs.reading.read.Goals.{else-loop-at-test, then-loop-at-test+in-More}

pub returns-then-not-branch-clause-fault : goal.returns-then-not-branch-clause-fault
returns-then-not-branch-clause-fault c =
    refused_there c.args.bytes.now c.loop-at.at c.loop-at.index c.loop-at.invariant c.in-Whole.frame c.in-Whole.size c.in-Whole.ensures.whole (omega (arith, c.loop-at-test.true, c.min.ensures))
    (subst (IsRefused c.loop-at.invariant.placed) c.read_server.ensures (told_no c.loop-at.invariant.placed _ _ _ c.take.result (c.take.ensures c.loop-at.invariant.placed c.loop-at.invariant.known) (c.in_ok-take-in-Whole.was ∙ ap (λ (b : Bool). Ok b) c.if-not-branch.true)))

pub loop-at-preserved : goal.loop-at-preserved
loop-at-preserved c =
    one_more c.args.bytes.now c.loop-at.at c.loop-at.index c.loop-at.invariant c.in-Whole.frame c.in-Whole.size c.in-Whole.ensures.whole c.take.new.self
    (subst (λ (o : Option Instr). (i : Instr) × (o ≡ Some i) × MayFollow c.loop-at.invariant.placed i × IsAt c.take.new.self (record { instr = i; end = c.loop-at.at + c.in-Whole.size } ∷ c.loop-at.invariant.placed)) c.read_server.ensures
    (told_yes c.loop-at.invariant.placed _ _ _ c.take.result (c.take.ensures c.loop-at.invariant.placed c.loop-at.invariant.known) (c.in_ok-take-in-Whole.was ∙ ap (λ (b : Bool). Ok b) c.if-not-branch.false)))

pub returns-in-Bad-clause-fault : goal.returns-in-Bad-clause-fault
returns-in-Bad-clause-fault c = bad_there c.args.bytes.now c.loop-at.at c.loop-at.index c.loop-at.invariant c.in-Bad.field-0.place c.min-place.result c.in-Bad.ensures.bad c.min-place.ensures

pub returns-clause-read : goal.returns-clause-read
returns-clause-read c = (
  c.loop-at.invariant.placed,
  c.loop-at.invariant.known,
  ended c.args.bytes.now c.loop-at.at c.loop-at.index c.loop-at.invariant (omega (arith, c.if-bytes-gt-MOST_BYTES.false))
      (elim c.loop-at-test.branch [
        | else-loop-at-test w ↦ inl (omega (arith, w.loop-at-test, c.min.ensures, c.if-bytes-gt-MOST_BYTES.false, c.loop-at.invariant.within))
        | then-loop-at-test+in-More w ↦ inr w.in-More.ensures.more
      ]),
)
