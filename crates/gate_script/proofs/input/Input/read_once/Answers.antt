use Rattle.std.proofs.Common.{◌≡◌, ℕ, List, ◌++◌, take, Bool, ap, refl, sym, ◌∙◌, subst}
use Rattle.std.specs.Prelude.{Result, Err}
use Rattle.std.proofs.lemmas.Result.{err_from_is_err_and}
use Rattle.gate_script.specs.declared.stop.Stop.{Stop}
use Rattle.gate_outside.specs.Edge.{Rose}
use Rattle.gate_script.specs.Sinks.{held}
use Rattle.gate_script.specs.Running.{StepEnds}
use Rattle.gate_outside.specs.Edge.{came}
use Rattle.gate_outside.proofs.Moved.{came-came}
use Rattle.gate_script.proofs.InputLaws.{run_stopped, at_end_unless, read_failed}
use Rattle.gate_script.proofs.input.Input.read_once.Goals as goal

pub returns-in_err-take-in-Ok-clause-step : goal.returns-in_err-take-in-Ok-clause-step
returns-in_err-take-in-Ok-clause-step g c = λ left0 bytes began came_is h.
    let p = err_from_is_err_and c.from_residual.result c.from_residual.ensures.1 in
    let stop = c.in_err-take-in-Ok.field-0.0 in
    let e : c.from_residual.result ≡ Err stop = p.1 ∙ ap (λ (s : Stop). Err s) p.2 in
    let more : List ℕ = take c.in-Ok.count c.read.new.into in
    let left = g.S.Source.left c.read.new.self in
    record {
      bytes = bytes ++ more;
      came_is = came_is ∙ (ap (came bytes) c.in-Ok.ensures.ok ∙ came-came bytes more left);
      holds = subst (λ (x : Result Bool Stop). StepEnds c.args.self.now.run.form (bytes ++ more) left (Rose (g.S.Source.faults c.args.source.now) (g.S.Source.faults c.read.new.self)) x c.take.new.self.piece.items c.take.new.self.run began (held (g.A.Sink.written c.take.new.answers) (g.A.Sink.faults c.take.new.answers) (g.F.Sink.written c.take.new.frames) (g.F.Sink.faults c.take.new.frames))) (sym e)
          (run_stopped c.args.self.now.run.form (bytes ++ more) left (Rose (g.S.Source.faults c.args.source.now) (g.S.Source.faults c.read.new.self)) began (held (g.A.Sink.written c.take.new.answers) (g.A.Sink.faults c.take.new.answers) (g.F.Sink.written c.take.new.frames) (g.F.Sink.faults c.take.new.frames)) stop (c.in_err-take-in-Ok.ensures.step bytes began h));
    }

pub returns-in_ok-take-in-Ok-clause-step : goal.returns-in_ok-take-in-Ok-clause-step
returns-in_ok-take-in-Ok-clause-step g c = λ left0 bytes began came_is h.
    let more : List ℕ = take c.in-Ok.count c.read.new.into in
    let left = g.S.Source.left c.read.new.self in
    record {
      bytes = bytes ++ more;
      came_is = came_is ∙ (ap (came bytes) c.in-Ok.ensures.ok ∙ came-came bytes more left);
      holds = (at_end_unless c.in-Ok.count c.read.new.into (g.S.Source.left c.args.source.now) left c.in-Ok.ensures.ok c.in-Ok.ensures.end, c.in_ok-take-in-Ok.ensures.step bytes began h);
    }

pub returns-in-Err-clause-step : goal.returns-in-Err-clause-step
returns-in-Err-clause-step g c = λ left0 bytes began came_is h. record {
  bytes = bytes;
  came_is = came_is ∙ ap (came bytes) (sym c.in-Err.ensures.unchanged);
  holds = (c.in-Err.ensures.faults.0 refl, read_failed c.args.self.now.run.form bytes c.args.self.now.piece.items c.args.self.now.run c.args.self.now.run began (held (g.A.Sink.written c.args.answers.now) (g.A.Sink.faults c.args.answers.now) (g.F.Sink.written c.args.frames.now) (g.F.Sink.faults c.args.frames.now)) (held (g.A.Sink.written c.args.answers.now) (g.A.Sink.faults c.args.answers.now) (g.F.Sink.written c.args.frames.now) (g.F.Sink.faults c.args.frames.now)) h);
}
