use Rattle.std.proofs.Common.{List, ap, ◌∙◌}
use Rattle.gate_model.specs.declared.act.Act.{Act}
use Rattle.http_tunnel.specs.Bodies.{Wish}
use Rattle.http_tunnel.proofs.Writing.{wish_done_as, wish_stopped_as}
use Rattle.http_tunnel.proofs.write.write_wish.Goals as goal

pub returns-in-Ok-clause-wrote : goal.returns-in-Ok-clause-wrote
returns-in-Ok-clause-wrote g c =
    let with_acts : List Act → Wish = λ acts. record { acts = acts; ends = c.wanted.inside.ends } in
    wish_done_as _ _ c.args.writer.now.view c.write_acts.new.pass.view c.leave_at.new.writer.view (with_acts c.deref.result.now) _ _ (ap with_acts c.deref.ensures.value ∙ c.wanted.view_is) c.in-Ok.ensures.stays.viewer c.in-Ok.ensures.wrote c.leave_at.ensures.left

pub returns-in-Err-clause-wrote : goal.returns-in-Err-clause-wrote
returns-in-Err-clause-wrote g c =
    let with_acts : List Act → Wish = λ acts. record { acts = acts; ends = c.wanted.inside.ends } in
    wish_stopped_as _ c.args.writer.now.view c.write_acts.new.pass.view (with_acts c.deref.result.now) _ _ _ (ap with_acts c.deref.ensures.value ∙ c.wanted.view_is) c.refused_write.ensures c.in-Err.ensures.wrote
