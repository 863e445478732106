use Rattle.std.proofs.Common.{◌++◌, ap, arith, inl, inr, ◌∙◌}
use Rattle.std.specs.Prelude.{Option}
use Rattle.gate_model.specs.declared.act.Act.{Act}
use Rattle.record_play.specs.KeyLog.{act_text, mods_behind}
use Rattle.record_play.proofs.Captures.{bad_in_log, log_one, logged_all}
use Rattle.record_play.proofs.logging.read_log.Goals as goal
use Rattle.record_play.proofs.logging.read_log.Goals.{else-loop-at-test, then-loop-at-test+in-More}

pub returns-in-Bad-clause-fault : goal.returns-in-Bad-clause-fault
returns-in-Bad-clause-fault c = bad_in_log c.args.bytes.now c.loop-at.at _ _ c.loop-at.invariant c.in-Bad.field-0.place c.min-place.result c.in-Bad.ensures.bad c.min-place.ensures

pub returns-clause-logged : goal.returns-clause-logged
returns-clause-logged c = logged_all c.args.bytes.now c.loop-at.at _ _ c.loop-at.invariant (omega (arith, c.if-bytes-gt-MOST_BYTES.false))
    (elim c.loop-at-test.branch [
      | else-loop-at-test w ↦ inl (omega (arith, w.loop-at-test, c.min.ensures, c.if-bytes-gt-MOST_BYTES.false, c.loop-at.invariant.within))
      | then-loop-at-test+in-More w ↦ inr w.in-More.ensures.more
    ])

pub loop-at-preserved : goal.loop-at-preserved
loop-at-preserved c =
    log_one c.args.bytes.now c.loop-at.at _ _ c.loop-at.invariant c.in-Whole.frame c.in-Whole.size c.in-Whole.ensures.whole c.take.new.self.text.items c.take.new.self.mods
    (c.in_ok-take-in-Whole.ensures.text ∙ ap (λ (o : Option Act). c.loop-at.log.text.items ++ act_text c.loop-at.log.mods o) c.read_client.ensures)
    (c.in_ok-take-in-Whole.ensures.mods ∙ ap (mods_behind c.loop-at.log.mods) c.read_client.ensures)
