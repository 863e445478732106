use Rattle.std.proofs.Common.{◌∙◌, List, ap, refl, subst, arith, length-drop}
use Rattle.std.specs.Prelude.{Ok, Err}
use Rattle.std.proofs.lemmas.List.{take_rest}
use Rattle.std.proofs.lemmas.Result.{err_from_is_err_and}
use Rattle.gate_model.specs.declared.act.Act.{Act}
use Rattle.gate_model.specs.declared.write_refusal.WriteRefusal.{WriteRefusal}
use Rattle.viewer_acts.specs.Doing.{WritesPart}
use Rattle.viewer_acts.proofs.Doings.{far_last_as, far_next_at, far_none}
use Rattle.viewer_acts.proofs.writing.write_acts.Goals as goal

pub loop-at-init : goal.loop-at-init
loop-at-init g c = record { stays = record { session = refl; viewer = refl }; within = omega arith; so_far = far_none _ _ _ }

pub loop-at-preserved : goal.loop-at-preserved
loop-at-preserved g c =
    let count = c.in_ok-at.ensures.count in
    record {
      stays = record { session = c.write_part.ensures.stays.session ∙ c.loop-at.invariant.stays.session; viewer = c.write_part.ensures.stays.viewer ∙ c.loop-at.invariant.stays.viewer };
      within = omega (arith, count.1, length-drop c.loop-at.at c.args.acts.now, c.loop-at.invariant.within);
      so_far = far_next_at c.args.pass.now.viewer c.args.pass.now.view c.loop-at.pass.view c.write_part.new.pass.view c.args.acts.now c.loop-at.at c.loop-at.invariant.so_far c.loop-at.pass.viewer c.in_ok-at.field-0 c.loop-at.invariant.stays.viewer (subst (λ (left : List Act). WritesPart c.loop-at.pass.viewer c.loop-at.pass.view c.write_part.new.pass.view left (Ok c.in_ok-at.field-0)) (take_rest c.args.acts.now c.loop-at.at) c.in_ok-at.ensures.part);
    }

pub returns-in_err-at-clause-wrote : goal.returns-in_err-at-clause-wrote
returns-in_err-at-clause-wrote g c =
    let p = err_from_is_err_and c.from_residual.result c.from_residual.ensures.1 in
    far_last_as c.args.pass.now.viewer c.args.pass.now.view c.loop-at.pass.view c.write_part.new.pass.view c.args.acts.now _ c.loop-at.invariant.so_far c.loop-at.pass.viewer c.in_err-at.field-0.0 c.from_residual.result c.loop-at.invariant.stays.viewer (p.1 ∙ ap (λ (r : WriteRefusal). Err r) p.2) (subst (λ (left : List Act). WritesPart c.loop-at.pass.viewer c.loop-at.pass.view c.write_part.new.pass.view left (Err c.in_err-at.field-0.0)) (take_rest c.args.acts.now c.loop-at.at) c.in_err-at.ensures.part)
