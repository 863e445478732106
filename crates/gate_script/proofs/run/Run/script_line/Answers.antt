use Rattle.std.proofs.Common.{◌≡◌, ◌∷◌, [], ◌∙◌, ap, sym, subst}
use Rattle.std.specs.Prelude.{Result, Err}
use Rattle.std.specs.Option.{is_some}
use Rattle.std.proofs.lemmas.Result.{err_from_is_err_and}
use Rattle.script_grammar.specs.declared.order.Order.TheVariants.{Told}
use Rattle.script_grammar.specs.Grammar.{judged}
use Rattle.gate_script.specs.declared.stop.Stop.{Stop}
use Rattle.gate_script.specs.declared.stop.Stop.TheVariants.{NoMemory}
use Rattle.gate_script.specs.declared.sight.Sight.TheVariants.{Played}
use Rattle.gate_script.specs.Sinks.{held}
use Rattle.gate_script.specs.Running.{Ends}
use Rattle.gate_script.proofs.RunLaws.{none_done}
use Rattle.gate_script.proofs.run.Run.script_line.Goals as goal

pub returns-in_err-line-clause-step : goal.returns-in_err-line-clause-step
returns-in_err-line-clause-step g c = λ orders began at.
    let p = err_from_is_err_and c.from_residual.result c.from_residual.ensures.1 in
    let e : c.from_residual.result ≡ Err NoMemory = p.1 ∙ ap (λ (s : Stop). Err s) p.2 in
    let order = Told (judged c.args.entries (is_some c.args.self.now.state.session) c.args.self.now.read c.args.piece.now) in
    subst (λ (x : Result (Unit {0}) Stop). Ends Played (order ∷ orders) x c.args.self.now began (held (g.A.Sink.written c.args.answers.now) (g.A.Sink.faults c.args.answers.now) (g.F.Sink.written c.args.frames.now) (g.F.Sink.faults c.args.frames.now))) (sym e) (none_done Played orders c.args.self.now began (held (g.A.Sink.written c.args.answers.now) (g.A.Sink.faults c.args.answers.now) (g.F.Sink.written c.args.frames.now) (g.F.Sink.faults c.args.frames.now)) at (order ∷ []))
