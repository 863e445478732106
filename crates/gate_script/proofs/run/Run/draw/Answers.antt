use Rattle.std.proofs.Common.{◌≡◌, ◌∷◌, [], ◌∙◌, ℕ, List, ap, refl, sym, subst}
use Rattle.std.specs.Prelude.{Result, Err}
use Rattle.std.proofs.lemmas.Result.{err_from_is_err_and}
use Rattle.script_grammar.specs.declared.line.Line.TheVariants.{Acknowledge, Read, Server}
use Rattle.script_grammar.specs.declared.order.Order.TheVariants.{Told, Untold}
use Rattle.gate_script.specs.declared.stop.Stop.{Stop}
use Rattle.gate_script.specs.declared.stop.Stop.TheVariants.{NoMemory}
use Rattle.gate_script.specs.declared.sight.Sight.TheVariants.{Unplayed}
use Rattle.gate_script.specs.Sinks.{held}
use Rattle.gate_script.specs.Running.{Ends, StoppedIn}
use Rattle.gate_script.proofs.RunLaws.{none_done, stopped-later}
use Rattle.gate_script.proofs.run.Run.draw.Goals as goal

pub returns-in_err-from_slice-clause-step : goal.returns-in_err-from_slice-clause-step
returns-in_err-from_slice-clause-step g c = λ orders began at.
    let p = err_from_is_err_and c.from_residual.result c.from_residual.ensures.1 in
    let e : c.from_residual.result ≡ Err NoMemory = p.1 ∙ ap (λ (s : Stop). Err s) p.2 in
    subst (λ (x : Result (Unit {0}) Stop). Ends Unplayed (Untold (Acknowledge 1) ∷ Untold (Read 1) ∷ Told (Server c.args.piece.now) ∷ orders) x c.args.self.now began (held (g.A.Sink.written c.args.answers.now) (g.A.Sink.faults c.args.answers.now) (g.F.Sink.written c.args.frames.now) (g.F.Sink.faults c.args.frames.now))) (sym e)
    (none_done Unplayed orders c.args.self.now began (held (g.A.Sink.written c.args.answers.now) (g.A.Sink.faults c.args.answers.now) (g.F.Sink.written c.args.frames.now) (g.F.Sink.faults c.args.frames.now)) at (Untold (Acknowledge 1) ∷ Untold (Read 1) ∷ Told (Server c.args.piece.now) ∷ []))

pub returns-in_err-order-clause-step : goal.returns-in_err-order-clause-step
returns-in_err-order-clause-step g c = λ orders began at.
    let p = err_from_is_err_and c.from_residual-in_err-order.result c.from_residual-in_err-order.ensures.1 in
    let stop = c.in_err-order.field-0.0 in
    let e : c.from_residual-in_err-order.result ≡ Err stop = p.1 ∙ ap (λ (s : Stop). Err s) p.2 in
    let same : c.of-bytes.result ≡ c.args.piece.now = c.of-bytes.ensures ∙ c.in_ok-from_slice.ensures.items in
    subst (λ (x : Result (Unit {0}) Stop). Ends Unplayed (Untold (Acknowledge 1) ∷ Untold (Read 1) ∷ Told (Server c.args.piece.now) ∷ orders) x c.order.new.self began (held (g.A.Sink.written c.order.new.answers) (g.A.Sink.faults c.order.new.answers) (g.F.Sink.written c.order.new.frames) (g.F.Sink.faults c.order.new.frames))) (sym e)
    (subst (λ (l : List ℕ). StoppedIn (Untold (Acknowledge 1) ∷ Untold (Read 1) ∷ Told (Server l) ∷ orders) stop began (held (g.A.Sink.written c.order.new.answers) (g.A.Sink.faults c.order.new.answers) (g.F.Sink.written c.order.new.frames) (g.F.Sink.faults c.order.new.frames))) same
    (stopped-later (Told (Server c.of-bytes.result) ∷ orders) (Untold (Acknowledge 1) ∷ Untold (Read 1) ∷ Told (Server c.of-bytes.result) ∷ orders) stop began (held (g.A.Sink.written c.order.new.answers) (g.A.Sink.faults c.order.new.answers) (g.F.Sink.written c.order.new.frames) (g.F.Sink.faults c.order.new.frames)) (Untold (Acknowledge 1) ∷ Untold (Read 1) ∷ [], refl) (c.in_err-order.ensures.step orders began at)))

pub returns-in_err-order-2-clause-step : goal.returns-in_err-order-2-clause-step
returns-in_err-order-2-clause-step g c = λ orders began at.
    let p = err_from_is_err_and c.from_residual-in_err-order-2.result c.from_residual-in_err-order-2.ensures.1 in
    let stop = c.in_err-order-2.field-0.0 in
    let e : c.from_residual-in_err-order-2.result ≡ Err stop = p.1 ∙ ap (λ (s : Stop). Err s) p.2 in
    let same : c.of-bytes.result ≡ c.args.piece.now = c.of-bytes.ensures ∙ c.in_ok-from_slice.ensures.items in
    subst (λ (x : Result (Unit {0}) Stop). Ends Unplayed (Untold (Acknowledge 1) ∷ Untold (Read 1) ∷ Told (Server c.args.piece.now) ∷ orders) x c.order-2.new.self began (held (g.A.Sink.written c.order-2.new.answers) (g.A.Sink.faults c.order-2.new.answers) (g.F.Sink.written c.order-2.new.frames) (g.F.Sink.faults c.order-2.new.frames))) (sym e)
    (subst (λ (l : List ℕ). StoppedIn (Untold (Acknowledge 1) ∷ Untold (Read 1) ∷ Told (Server l) ∷ orders) stop began (held (g.A.Sink.written c.order-2.new.answers) (g.A.Sink.faults c.order-2.new.answers) (g.F.Sink.written c.order-2.new.frames) (g.F.Sink.faults c.order-2.new.frames))) same
    (stopped-later (Untold (Read 1) ∷ Told (Server c.of-bytes.result) ∷ orders) (Untold (Acknowledge 1) ∷ Untold (Read 1) ∷ Told (Server c.of-bytes.result) ∷ orders) stop began (held (g.A.Sink.written c.order-2.new.answers) (g.A.Sink.faults c.order-2.new.answers) (g.F.Sink.written c.order-2.new.frames) (g.F.Sink.faults c.order-2.new.frames)) (Untold (Acknowledge 1) ∷ [], refl) (c.in_err-order-2.ensures.step (Told (Server c.of-bytes.result) ∷ orders) began (c.in_ok-order.ensures.step orders began at))))
