use Rattle.std.proofs.Common.{◌≡◌, refl, sym, ◌∙◌, subst, ap}
use Rattle.std.specs.Prelude.{Result, Err}
use Rattle.std.proofs.lemmas.Result.{err_from_is_err_and}
use Rattle.script_grammar.specs.declared.order.Order.{Order}
use Rattle.script_grammar.specs.declared.order.Order.TheVariants.{Untold}
use Rattle.gate_script.specs.declared.halt.Halt.{Halt}
use Rattle.gate_script.specs.declared.state.State.{State}
use Rattle.gate_script.specs.Running.{OrderDone, OrderEnds}
use Rattle.gate_script.proofs.RunLaws.{order_told_line, order_untold_line}
use Rattle.gate_script.proofs.state.State.order.Goals as goal

pub returns-in-Told-clause-step : goal.returns-in-Told-clause-step
returns-in-Told-clause-step c = λ p at.
    subst (λ (o : Order). OrderEnds c.args.sight o p c.line.result c.line.new.self) (sym c.in-Told.is) (order_told_line c.args.sight c.in-Told.line p c.line.new.self c.clear.new.self c.line.result c.clear.ensures.answer c.clear.ensures.frame (c.line.ensures.step p at))

pub returns-in_err-line-in-Untold-clause-step : goal.returns-in_err-line-in-Untold-clause-step
returns-in_err-line-in-Untold-clause-step c = λ p at.
    let q = err_from_is_err_and c.from_residual.result c.from_residual.ensures.1 in
    let halt = c.in_err-line-in-Untold.field-0.0 in
    let e : c.from_residual.result ≡ Err halt = q.1 ∙ ap (λ (s : Halt). Err s) q.2 in
    subst (λ (o : Order). OrderEnds c.args.sight o p c.from_residual.result c.line-in-Untold.new.self) (sym c.in-Untold.is)
    (subst (λ (x : Result (Unit {0}) Halt). OrderEnds c.args.sight (Untold c.in-Untold.line) p x c.line-in-Untold.new.self) (sym e) (c.in_err-line-in-Untold.ensures.step p at))

pub returns-in_ok-line-in-Untold-clause-step : goal.returns-in_ok-line-in-Untold-clause-step
returns-in_ok-line-in-Untold-clause-step c = λ p at.
    let s' : State = record { moment = c.line-in-Untold.new.self.moment; session = c.line-in-Untold.new.self.session; reply = record { answer = c.clear-in-Untold.new.self; frame = c.line-in-Untold.new.self.reply.frame } } in
    subst (λ (o : Order). OrderDone c.args.sight o p s') (sym c.in-Untold.is)
    (order_untold_line c.args.sight c.in-Untold.line p c.line-in-Untold.new.self s' c.clear.new.self c.clear.ensures.frame refl refl c.clear-in-Untold.ensures.items refl (c.in_ok-line-in-Untold.ensures.step p at))
