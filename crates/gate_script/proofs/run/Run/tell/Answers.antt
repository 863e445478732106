use Rattle.std.proofs.Common.{◌∙◌, List, ℕ, ap, refl, subst}
use Rattle.gate_outside.specs.Edge.{GainedFront, gained}
use Rattle.gate_script.specs.Sinks.{held}
use Rattle.gate_script.proofs.RunLaws.{answer_cut, frames_cut}
use Rattle.gate_script.proofs.run.Run.tell.Goals as goal

pub returns-in-Err : goal.returns-in-Err
returns-in-Err g c = frames_cut (held (g.A.Sink.written c.args.answers.now) (g.A.Sink.faults c.args.answers.now) (g.F.Sink.written c.args.frames.now) (g.F.Sink.faults c.args.frames.now)) c.args.self.now.state.reply.answer.items c.args.self.now.state.reply.frame.items (g.F.Sink.written c.write_all.new.sink) (g.F.Sink.faults c.write_all.new.sink)
    (subst (λ (l : List ℕ). GainedFront (g.F.Sink.written c.args.frames.now) (g.F.Sink.written c.write_all.new.sink) l) c.deref.ensures.value c.in-Err.ensures.part) c.in-Err.ensures.faults.1 (c.in-Err.ensures.faults.0 refl)

pub returns-in-Err-write_all : goal.returns-in-Err-write_all
returns-in-Err-write_all g c = answer_cut (held (g.A.Sink.written c.args.answers.now) (g.A.Sink.faults c.args.answers.now) (g.F.Sink.written c.args.frames.now) (g.F.Sink.faults c.args.frames.now)) c.args.self.now.state.reply.answer.items c.args.self.now.state.reply.frame.items (g.A.Sink.written c.write_all-in-Ok.new.sink) (g.F.Sink.written c.write_all.new.sink) (g.A.Sink.faults c.write_all-in-Ok.new.sink) (g.F.Sink.faults c.write_all.new.sink)
    (subst (λ (l : List ℕ). GainedFront (g.A.Sink.written c.args.answers.now) (g.A.Sink.written c.write_all-in-Ok.new.sink) l) c.deref-in-Ok.ensures.value c.in-Err-write_all.ensures.part) c.in-Err-write_all.ensures.faults.1 (c.in-Err-write_all.ensures.faults.0 refl)
    (c.in-Ok.ensures.ok ∙ ap (gained (g.F.Sink.written c.args.frames.now)) c.deref.ensures.value) c.in-Ok.ensures.faults.1
