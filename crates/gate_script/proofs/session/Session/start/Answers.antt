use Rattle.std.proofs.Common.{◌∷◌, [], ◌∙◌, ap, subst}
use Rattle.std.specs.Prelude.{Err}
use Rattle.std.proofs.lemmas.Result.{err_from_is_err_and}
use Rattle.gate_model.specs.declared.setup.Setup.{Setup}
use Rattle.desk_core.specs.Calls.{Opened}
use Rattle.gate_script.specs.declared.halt.Halt.{Halt}
use Rattle.gate_script.proofs.SessionLaws.{started, not_started}
use Rattle.gate_script.proofs.session.Session.start.Goals as goal

pub returns-in_err-report-clause-step : goal.returns-in_err-report-clause-step
returns-in_err-report-clause-step c = λ sight.
    let p = err_from_is_err_and c.from_residual-in_err-report.result c.from_residual-in_err-report.ensures.1 in
    not_started sight c.args.size c.args.mode c.args.entries c.args.now c.args.reply.now c.report.new.self _ _ c.in_err-report.field-0.0 c.from_residual-in_err-report.result (p.1 ∙ ap (λ (s : Halt). Err s) p.2) c.in_err-report.ensures

pub returns-clause-step : goal.returns-clause-step
returns-clause-step c = λ sight.
    let o = subst (λ (setup : Setup). Opened setup c.args.now c.in_ok-desk.desk) c.in_ok-setup.ensures c.in_ok-desk.ensures.opened in
    started sight c.args.size c.args.mode c.args.entries c.args.now record { desk = c.in_ok-desk.desk; canvases = c.new.result; given = c.new-2.result } c.args.reply.now c.report.new.self o c.new.ensures.items
    c.stamp.result c.newest_frame.result.now (c.stamp.ensures (o.entry ∷ []) o.stands) (c.newest_frame.ensures (o.entry ∷ []) o.stands) c.in_ok-report.ensures
