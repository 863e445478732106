use Rattle.std.proofs.Common.{◌+◌, ◌∷◌, refl, sym, subst}
use Rattle.gate_script.specs.declared.stop.Stop.{Stop}
use Rattle.gate_script.specs.Sinks.{held}
use Rattle.gate_script.specs.Running.{StoppedIn}
use Rattle.gate_script.proofs.RunLaws.{order_goes, order_told, halted}
use Rattle.gate_script.proofs.run.Run.order.Goals as goal

pub returns-in-Ok-clause-step : goal.returns-in-Ok-clause-step
returns-in-Ok-clause-step g c = λ orders began at.
    order_told c.args.sight orders c.args.self.now began (held (g.A.Sink.written c.args.answers.now) (g.A.Sink.faults c.args.answers.now) (g.F.Sink.written c.args.frames.now) (g.F.Sink.faults c.args.frames.now)) at c.desks_are_true.ensures c.desks_are_whole.ensures c.args.order
    record { form = c.args.self.now.form; state = c.order.new.self; lines = c.args.self.now.lines + 1; read = c.args.self.now.read }
    (held (g.A.Sink.written c.tell.new.answers) (g.A.Sink.faults c.tell.new.answers) (g.F.Sink.written c.tell.new.frames) (g.F.Sink.faults c.tell.new.frames))
    (c.in-Ok.ensures.step at.play at.stands) c.in-Ok.ensures.opened refl c.tell.result c.tell.ensures

pub returns-in-Err-clause-step : goal.returns-in-Err-clause-step
returns-in-Err-clause-step g c = λ orders began at.
    subst (λ (stop : Stop). StoppedIn (c.args.order ∷ orders) stop began (held (g.A.Sink.written c.args.answers.now) (g.A.Sink.faults c.args.answers.now) (g.F.Sink.written c.args.frames.now) (g.F.Sink.faults c.args.frames.now))) (sym c.stop_of.ensures)
    (halted c.args.sight orders c.args.self.now began (held (g.A.Sink.written c.args.answers.now) (g.A.Sink.faults c.args.answers.now) (g.F.Sink.written c.args.frames.now) (g.F.Sink.faults c.args.frames.now)) at c.args.order c.in-Err.halt (c.args.self.now.lines + 1) refl (c.in-Err.ensures.step at.play at.stands))

pub returns-in-Ok-clause-goes_on : goal.returns-in-Ok-clause-goes_on
returns-in-Ok-clause-goes_on g c = λ orders began at.
    order_goes c.args.sight orders c.args.self.now began (held (g.A.Sink.written c.args.answers.now) (g.A.Sink.faults c.args.answers.now) (g.F.Sink.written c.args.frames.now) (g.F.Sink.faults c.args.frames.now)) at c.desks_are_true.ensures c.desks_are_whole.ensures c.args.order
    record { form = c.args.self.now.form; state = c.order.new.self; lines = c.args.self.now.lines + 1; read = c.args.self.now.read }
    (held (g.A.Sink.written c.tell.new.answers) (g.A.Sink.faults c.tell.new.answers) (g.F.Sink.written c.tell.new.frames) (g.F.Sink.faults c.tell.new.frames))
    (c.in-Ok.ensures.step at.play at.stands) c.in-Ok.ensures.opened refl c.tell.result c.tell.ensures
