use Rattle.std.proofs.Common.{◌≡◌, ℕ, ◌+◌, ◌-◌, List, ◌++◌, length, take, drop, refl, ap, sym, ◌∙◌, subst, arith}
use Rattle.std.specs.Prelude.{Result, Err, None}
use Rattle.std.proofs.lemmas.Result.{err_from_is_err_and}
use Rattle.script_grammar.specs.declared.text_form.TextForm.{TextForm}
use Rattle.gate_script.specs.declared.stop.Stop.{Stop}
use Rattle.script_grammar.specs.Pieces.{first_piece}
use Rattle.script_grammar.specs.Grammar.{most_of, whole_lines}
use Rattle.gate_script.specs.Sinks.{held}
use Rattle.gate_script.specs.Running.{HasCut, BytesEnd, StoppedIn}
use Rattle.std.proofs.Common.{append-nil}
use Rattle.std.proofs.lemmas.List.{take_all}
use Rattle.gate_script.proofs.InputLaws.{taken, taken-all}
use Rattle.gate_script.proofs.input.Input.take.Goals as goal

pub returns-in_err-at-clause-step : goal.returns-in_err-at-clause-step
returns-in_err-at-clause-step g c = λ before began h.
    let p = err_from_is_err_and c.from_residual.result c.from_residual.ensures.1 in
    let stop = c.in_err-at.field-0.0 in
    let e : c.from_residual.result ≡ Err stop = p.1 ∙ ap (λ (s : Stop). Err s) p.2 in
    let bytes = c.args.bytes.now in
    let place = c.loop-at.at in
    let rest : List ℕ = take (length bytes - place) (drop place bytes) in
    let w : HasCut c.loop-at.self.run.form (before ++ take place bytes) c.loop-at.self.piece.items c.loop-at.self.run began (held (g.A.Sink.written c.loop-at.answers) (g.A.Sink.faults c.loop-at.answers) (g.F.Sink.written c.loop-at.frames) (g.F.Sink.faults c.loop-at.frames)) =
    subst (λ (form : TextForm). HasCut form (before ++ take place bytes) c.loop-at.self.piece.items c.loop-at.self.run began (held (g.A.Sink.written c.loop-at.answers) (g.A.Sink.faults c.loop-at.answers) (g.F.Sink.written c.loop-at.frames) (g.F.Sink.faults c.loop-at.frames))) (sym c.loop-at.invariant.form) (c.loop-at.invariant.step before began h) in
    subst (λ (x : Result (Unit {0}) Stop). BytesEnd c.args.self.now.run.form (before ++ bytes) x c.take_part.new.self.piece.items c.take_part.new.self.run began (held (g.A.Sink.written c.take_part.new.answers) (g.A.Sink.faults c.take_part.new.answers) (g.F.Sink.written c.take_part.new.frames) (g.F.Sink.faults c.take_part.new.frames))) (sym e)
    (subst (λ (form : TextForm). StoppedIn (whole_lines form (before ++ bytes)) stop began (held (g.A.Sink.written c.take_part.new.answers) (g.A.Sink.faults c.take_part.new.answers) (g.F.Sink.written c.take_part.new.frames) (g.F.Sink.faults c.take_part.new.frames))) c.loop-at.invariant.form
    (subst (λ (b : List ℕ). StoppedIn (whole_lines c.loop-at.self.run.form b) stop began (held (g.A.Sink.written c.take_part.new.answers) (g.A.Sink.faults c.take_part.new.answers) (g.F.Sink.written c.take_part.new.frames) (g.F.Sink.faults c.take_part.new.frames))) (taken-all before bytes place) (c.in_err-at.ensures.step (before ++ take place bytes) began w)))

pub loop-at-init : goal.loop-at-init
loop-at-init g c = record {
  within = omega arith;
  ready = c.requires.ready;
  form = refl;
  begun = c.requires.begun;
  grows = omega arith;
  step = λ before began h. subst (λ (b : List ℕ). HasCut c.args.self.now.run.form b c.args.self.now.piece.items c.args.self.now.run began (held (g.A.Sink.written c.args.answers.now) (g.A.Sink.faults c.args.answers.now) (g.F.Sink.written c.args.frames.now) (g.F.Sink.faults c.args.frames.now))) (sym (append-nil before)) h;
}

pub loop-at-preserved : goal.loop-at-preserved
loop-at-preserved g c = record {
  within = omega (arith, c.in_ok-at.ensures.within, c.loop-at-test.true);
  ready = c.in_ok-at.ensures.ready;
  form = c.in_ok-at.ensures.form ∙ c.loop-at.invariant.form;
  begun = subst (λ (form : TextForm). first_piece (most_of form) c.take_part.new.self.piece.items ≡ None) c.loop-at.invariant.form c.in_ok-at.ensures.begun;
  grows = omega (arith, c.in_ok-at.ensures.grows, c.loop-at.invariant.grows);
  step = λ before began h.
      let bytes = c.args.bytes.now in
      let place = c.loop-at.at in
      let n = c.in_ok-at.field-0 in
      let rest : List ℕ = take (length bytes - place) (drop place bytes) in
      let w : HasCut c.loop-at.self.run.form (before ++ take place bytes) c.loop-at.self.piece.items c.loop-at.self.run began (held (g.A.Sink.written c.loop-at.answers) (g.A.Sink.faults c.loop-at.answers) (g.F.Sink.written c.loop-at.frames) (g.F.Sink.faults c.loop-at.frames)) =
      subst (λ (form : TextForm). HasCut form (before ++ take place bytes) c.loop-at.self.piece.items c.loop-at.self.run began (held (g.A.Sink.written c.loop-at.answers) (g.A.Sink.faults c.loop-at.answers) (g.F.Sink.written c.loop-at.frames) (g.F.Sink.faults c.loop-at.frames))) (sym c.loop-at.invariant.form) (c.loop-at.invariant.step before began h) in
      subst (λ (form : TextForm). HasCut form (before ++ take (place + n) bytes) c.take_part.new.self.piece.items c.take_part.new.self.run began (held (g.A.Sink.written c.take_part.new.answers) (g.A.Sink.faults c.take_part.new.answers) (g.F.Sink.written c.take_part.new.frames) (g.F.Sink.faults c.take_part.new.frames))) c.loop-at.invariant.form
      (subst (λ (b : List ℕ). HasCut c.loop-at.self.run.form b c.take_part.new.self.piece.items c.take_part.new.self.run began (held (g.A.Sink.written c.take_part.new.answers) (g.A.Sink.faults c.take_part.new.answers) (g.F.Sink.written c.take_part.new.frames) (g.F.Sink.faults c.take_part.new.frames))) (taken before bytes place n) (c.in_ok-at.ensures.step (before ++ take place bytes) began w));
}

pub returns-clause-step : goal.returns-clause-step
returns-clause-step g c = λ before began h.
    let all : take c.loop-at.at c.args.bytes.now ≡ c.args.bytes.now = take_all c.loop-at.at c.args.bytes.now (omega (arith, c.loop-at-test.false)) in
    subst (λ (b : List ℕ). HasCut c.args.self.now.run.form (before ++ b) c.loop-at.self.piece.items c.loop-at.self.run began (held (g.A.Sink.written c.loop-at.answers) (g.A.Sink.faults c.loop-at.answers) (g.F.Sink.written c.loop-at.frames) (g.F.Sink.faults c.loop-at.frames))) all (c.loop-at.invariant.step before began h)
