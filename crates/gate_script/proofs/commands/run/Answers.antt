use Rattle.std.proofs.Common.{◌≡◌, [], ◌∙◌, ap, subst, sym, refl}
use Rattle.std.specs.Prelude.{Result, Err}
use Rattle.std.proofs.lemmas.Result.{err_from_is_err_and}
use Rattle.gate_outside.specs.Edge.{Rose}
use Rattle.script_grammar.specs.declared.text_form.TextForm.{TextForm}
use Rattle.gate_script.specs.declared.stop.Stop.{Stop}
use Rattle.gate_script.specs.Sinks.{held}
use Rattle.gate_script.specs.Running.{HasCut, HasDone, HasRead, PieceEnds, RunEnds}
use Rattle.gate_script.proofs.InputLaws.{cut_nothing}
use Rattle.gate_script.proofs.CommandLaws.{not_opened}
use Rattle.gate_script.proofs.commands.run.Goals as goal

pub returns-in_err-open-clause-ran : goal.returns-in_err-open-clause-ran
returns-in_err-open-clause-ran g c =
    let p = err_from_is_err_and c.from_residual.result c.from_residual.ensures.1 in
    let stop = c.in_err-open.field-0.0 in
    let e : c.from_residual.result ≡ Err stop = p.1 ∙ ap (λ (s : Stop). Err s) p.2 in
    subst (λ (x : Result (Unit {0}) Stop). HasRead (g.S.Source.left c.args.source.now) (g.S.Source.left c.args.source.now) (λ bytes. RunEnds c.args.form bytes (g.S.Source.left c.args.source.now) (Rose (g.S.Source.faults c.args.source.now) (g.S.Source.faults c.args.source.now)) x (held (g.A.Sink.written c.args.answers.now) (g.A.Sink.faults c.args.answers.now) (g.F.Sink.written c.args.frames.now) (g.F.Sink.faults c.args.frames.now)) (held (g.A.Sink.written c.open.new.answers) (g.A.Sink.faults c.open.new.answers) (g.F.Sink.written c.open.new.frames) (g.F.Sink.faults c.open.new.frames)))) (sym e)
    (not_opened c.args.form (g.S.Source.left c.args.source.now) (Rose (g.S.Source.faults c.args.source.now) (g.S.Source.faults c.args.source.now)) (held (g.A.Sink.written c.args.answers.now) (g.A.Sink.faults c.args.answers.now) (g.F.Sink.written c.args.frames.now) (g.F.Sink.faults c.args.frames.now)) (held (g.A.Sink.written c.open.new.answers) (g.A.Sink.faults c.open.new.answers) (g.F.Sink.written c.open.new.frames) (g.F.Sink.faults c.open.new.frames)) stop (subst (λ (form : TextForm). PieceEnds form [] (Err stop) c.open.new.self (held (g.A.Sink.written c.args.answers.now) (g.A.Sink.faults c.args.answers.now) (g.F.Sink.written c.args.frames.now) (g.F.Sink.faults c.args.frames.now)) (held (g.A.Sink.written c.open.new.answers) (g.A.Sink.faults c.open.new.answers) (g.F.Sink.written c.open.new.frames) (g.F.Sink.faults c.open.new.frames))) c.new.ensures.form c.in_err-open.ensures.step))

pub returns-clause-ran : goal.returns-clause-ran
returns-clause-ran g c =
    let form1 = c.new.result.form in
    let opened : HasDone form1 [] c.open.new.self (held (g.A.Sink.written c.args.answers.now) (g.A.Sink.faults c.args.answers.now) (g.F.Sink.written c.args.frames.now) (g.F.Sink.faults c.args.frames.now)) (held (g.A.Sink.written c.open.new.answers) (g.A.Sink.faults c.open.new.answers) (g.F.Sink.written c.open.new.frames) (g.F.Sink.faults c.open.new.frames)) = c.in_ok-open.ensures.step in
    let is : c.open.new.self.form ≡ c.args.form = c.in_ok-open.ensures.form ∙ c.new.ensures.form in
    let cut : HasCut c.open.new.self.form [] [] c.open.new.self (held (g.A.Sink.written c.args.answers.now) (g.A.Sink.faults c.args.answers.now) (g.F.Sink.written c.args.frames.now) (g.F.Sink.faults c.args.frames.now)) (held (g.A.Sink.written c.open.new.answers) (g.A.Sink.faults c.open.new.answers) (g.F.Sink.written c.open.new.frames) (g.F.Sink.faults c.open.new.frames)) = cut_nothing c.open.new.self.form c.open.new.self (held (g.A.Sink.written c.args.answers.now) (g.A.Sink.faults c.args.answers.now) (g.F.Sink.written c.args.frames.now) (g.F.Sink.faults c.args.frames.now)) (held (g.A.Sink.written c.open.new.answers) (g.A.Sink.faults c.open.new.answers) (g.F.Sink.written c.open.new.frames) (g.F.Sink.faults c.open.new.frames)) [] refl (subst (λ (form : TextForm). HasDone form [] c.open.new.self (held (g.A.Sink.written c.args.answers.now) (g.A.Sink.faults c.args.answers.now) (g.F.Sink.written c.args.frames.now) (g.F.Sink.faults c.args.frames.now)) (held (g.A.Sink.written c.open.new.answers) (g.A.Sink.faults c.open.new.answers) (g.F.Sink.written c.open.new.frames) (g.F.Sink.faults c.open.new.frames))) (sym c.in_ok-open.ensures.form) opened) in
    subst (λ (form : TextForm). HasRead (g.S.Source.left c.args.source.now) (g.S.Source.left c.read_all.new.source) (λ bytes. RunEnds form bytes (g.S.Source.left c.read_all.new.source) (Rose (g.S.Source.faults c.args.source.now) (g.S.Source.faults c.read_all.new.source)) c.read_all.result (held (g.A.Sink.written c.args.answers.now) (g.A.Sink.faults c.args.answers.now) (g.F.Sink.written c.args.frames.now) (g.F.Sink.faults c.args.frames.now)) (held (g.A.Sink.written c.read_all.new.answers) (g.A.Sink.faults c.read_all.new.answers) (g.F.Sink.written c.read_all.new.frames) (g.F.Sink.faults c.read_all.new.frames)))) is (c.read_all.ensures.step (held (g.A.Sink.written c.args.answers.now) (g.A.Sink.faults c.args.answers.now) (g.F.Sink.written c.args.frames.now) (g.F.Sink.faults c.args.frames.now)) cut)
