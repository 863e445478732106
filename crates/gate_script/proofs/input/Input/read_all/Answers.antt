use Rattle.std.proofs.Common.{◌≡◌, ℕ, List, [], refl, ap, sym, ◌∙◌, subst, arith}
use Rattle.std.specs.Prelude.{Result, Err, None}
use Rattle.std.proofs.lemmas.Result.{err_from_is_err_and}
use Rattle.script_grammar.specs.declared.text_form.TextForm.{TextForm}
use Rattle.gate_script.specs.declared.stop.Stop.{Stop}
use Rattle.gate_script.specs.declared.stop.Stop.TheVariants.{NoMemory}
use Rattle.script_grammar.specs.Pieces.{first_piece}
use Rattle.script_grammar.specs.Grammar.{most_of}
use Rattle.gate_script.specs.Running.{HasCut, RunEnds}
use Rattle.gate_outside.specs.Edge.{Rose}
use Rattle.gate_outside.proofs.Moved.{came-none}
use Rattle.gate_script.specs.Sinks.{held}
use Rattle.gate_script.proofs.InputLaws.{no_piece, no_room, few_read, short_piece, rose-later, fault_earlier, read_ends}
use Rattle.gate_script.proofs.input.Input.read_all.Goals as goal

pub returns-in_err-buffer-clause-step : goal.returns-in_err-buffer-clause-step
returns-in_err-buffer-clause-step g c = λ began h.
    let p = err_from_is_err_and c.from_residual.result c.from_residual.ensures.1 in
    let e : c.from_residual.result ≡ Err NoMemory = p.1 ∙ ap (λ (s : Stop). Err s) p.2 in
    record {
      bytes = [];
      came_is = sym (came-none (g.S.Source.left c.args.source.now));
      holds = subst (λ (x : Result (Unit {0}) Stop). RunEnds c.args.self.now.run.form [] (g.S.Source.left c.args.source.now) (Rose (g.S.Source.faults c.args.source.now) (g.S.Source.faults c.args.source.now)) x began (held (g.A.Sink.written c.args.answers.now) (g.A.Sink.faults c.args.answers.now) (g.F.Sink.written c.args.frames.now) (g.F.Sink.faults c.args.frames.now))) (sym e) (no_room c.args.self.now.run.form [] c.args.self.now.run (g.S.Source.left c.args.source.now) (Rose (g.S.Source.faults c.args.source.now) (g.S.Source.faults c.args.source.now)) began (held (g.A.Sink.written c.args.answers.now) (g.A.Sink.faults c.args.answers.now) (g.F.Sink.written c.args.frames.now) (g.F.Sink.faults c.args.frames.now)) h);
    }

pub input-init : goal.input-init
input-init g c = record {
  ready = c.requires.ready;
  form = refl;
  begun = ap (first_piece (most_of c.args.self.now.run.form)) c.requires.empty ∙ no_piece c.args.self.now.run.form;
  counts = omega arith;
  room = c.in_ok-buffer.ensures.len;
  later_source = omega arith;
  step = λ began h. record { bytes = []; came_is = sym (came-none (g.S.Source.left c.args.source.now)); holds = subst (λ (l : List ℕ). HasCut c.args.self.now.run.form [] l c.args.self.now.run began (held (g.A.Sink.written c.args.answers.now) (g.A.Sink.faults c.args.answers.now) (g.F.Sink.written c.args.frames.now) (g.F.Sink.faults c.args.frames.now))) (sym c.requires.empty) h };
}

pub returns-in_err-read_once-clause-step : goal.returns-in_err-read_once-clause-step
returns-in_err-read_once-clause-step g c = λ began h.
    let p = err_from_is_err_and c.from_residual-in_err-read_once.result c.from_residual-in_err-read_once.ensures.1 in
    let stop = c.in_err-read_once.field-0.0 in
    let e : c.from_residual-in_err-read_once.result ≡ Err stop = p.1 ∙ ap (λ (s : Stop). Err s) p.2 in
    let read = c.input.invariant.step began h in
    let w : HasCut c.input.self.run.form read.bytes c.input.self.piece.items c.input.self.run began (held (g.A.Sink.written c.input.answers) (g.A.Sink.faults c.input.answers) (g.F.Sink.written c.input.frames) (g.F.Sink.faults c.input.frames)) =
    subst (λ (form : TextForm). HasCut form read.bytes c.input.self.piece.items c.input.self.run began (held (g.A.Sink.written c.input.answers) (g.A.Sink.faults c.input.answers) (g.F.Sink.written c.input.frames) (g.F.Sink.faults c.input.frames))) (sym c.input.invariant.form) read.holds in
    let s = c.in_err-read_once.ensures.step (g.S.Source.left c.args.source.now) read.bytes began read.came_is w in
    record {
      bytes = s.bytes;
      came_is = s.came_is;
      holds = subst (λ (x : Result (Unit {0}) Stop). RunEnds c.args.self.now.run.form s.bytes (g.S.Source.left c.read_once.new.source) (Rose (g.S.Source.faults c.args.source.now) (g.S.Source.faults c.read_once.new.source)) x began (held (g.A.Sink.written c.read_once.new.answers) (g.A.Sink.faults c.read_once.new.answers) (g.F.Sink.written c.read_once.new.frames) (g.F.Sink.faults c.read_once.new.frames))) (sym e)
          (fault_earlier c.args.self.now.run.form s.bytes (g.S.Source.left c.read_once.new.source) (Rose (g.S.Source.faults c.input.source) (g.S.Source.faults c.read_once.new.source)) (Rose (g.S.Source.faults c.args.source.now) (g.S.Source.faults c.read_once.new.source)) stop began (held (g.A.Sink.written c.read_once.new.answers) (g.A.Sink.faults c.read_once.new.answers) (g.F.Sink.written c.read_once.new.frames) (g.F.Sink.faults c.read_once.new.frames))
          (rose-later (g.S.Source.faults c.args.source.now) (g.S.Source.faults c.input.source) (g.S.Source.faults c.read_once.new.source) c.input.invariant.later_source)
          (subst (λ (form : TextForm). RunEnds form s.bytes (g.S.Source.left c.read_once.new.source) (Rose (g.S.Source.faults c.input.source) (g.S.Source.faults c.read_once.new.source)) (Err stop) began (held (g.A.Sink.written c.read_once.new.answers) (g.A.Sink.faults c.read_once.new.answers) (g.F.Sink.written c.read_once.new.frames) (g.F.Sink.faults c.read_once.new.frames))) c.input.invariant.form s.holds));
    }

pub returns-then-not-branch-clause-step : goal.returns-then-not-branch-clause-step
returns-then-not-branch-clause-step g c = λ began h.
    let read = c.input.invariant.step began h in
    let w : HasCut c.input.self.run.form read.bytes c.input.self.piece.items c.input.self.run began (held (g.A.Sink.written c.input.answers) (g.A.Sink.faults c.input.answers) (g.F.Sink.written c.input.frames) (g.F.Sink.faults c.input.frames)) =
    subst (λ (form : TextForm). HasCut form read.bytes c.input.self.piece.items c.input.self.run began (held (g.A.Sink.written c.input.answers) (g.A.Sink.faults c.input.answers) (g.F.Sink.written c.input.frames) (g.F.Sink.faults c.input.frames))) (sym c.input.invariant.form) read.holds in
    let s = c.in_ok-read_once.ensures.step (g.S.Source.left c.args.source.now) read.bytes began read.came_is w in
    record {
      bytes = s.bytes;
      came_is = s.came_is;
      holds = read_ends c.args.self.now.run.form c.input.self.run.form c.read_once.new.self.run.form c.in_ok-read_once.field-0 s.bytes c.read_once.new.self.piece.items c.read_once.new.self.run (g.S.Source.left c.read_once.new.source) (Rose (g.S.Source.faults c.args.source.now) (g.S.Source.faults c.read_once.new.source)) began (held (g.A.Sink.written c.read_once.new.answers) (g.A.Sink.faults c.read_once.new.answers) (g.F.Sink.written c.read_once.new.frames) (g.F.Sink.faults c.read_once.new.frames)) (held (g.A.Sink.written c.finish.new.answers) (g.A.Sink.faults c.finish.new.answers) (g.F.Sink.written c.finish.new.frames) (g.F.Sink.faults c.finish.new.frames)) c.finish.result
          c.input.invariant.form c.in_ok-read_once.ensures.form c.if-not-branch.true s.holds (c.finish.ensures s.bytes began);
    }

pub input-preserved : goal.input-preserved
input-preserved g c = record {
  ready = c.in_ok-read_once.ensures.ready;
  form = c.in_ok-read_once.ensures.form ∙ c.input.invariant.form;
  begun = subst (λ (form : TextForm). first_piece (most_of form) c.read_once.new.self.piece.items ≡ None) c.input.invariant.form c.in_ok-read_once.ensures.begun;
  counts = omega (arith, c.in_ok-read_once.ensures.grows c.if-not-branch.false, c.input.invariant.counts);
  room = c.input.invariant.room;
  later_source = omega (arith, c.in_ok-read_once.ensures.later, c.input.invariant.later_source);
  step = λ began h.
      let read = c.input.invariant.step began h in
      let w : HasCut c.input.self.run.form read.bytes c.input.self.piece.items c.input.self.run began (held (g.A.Sink.written c.input.answers) (g.A.Sink.faults c.input.answers) (g.F.Sink.written c.input.frames) (g.F.Sink.faults c.input.frames)) =
      subst (λ (form : TextForm). HasCut form read.bytes c.input.self.piece.items c.input.self.run began (held (g.A.Sink.written c.input.answers) (g.A.Sink.faults c.input.answers) (g.F.Sink.written c.input.frames) (g.F.Sink.faults c.input.frames))) (sym c.input.invariant.form) read.holds in
      let s = c.in_ok-read_once.ensures.step (g.S.Source.left c.args.source.now) read.bytes began read.came_is w in
      record {
        bytes = s.bytes;
        came_is = s.came_is;
        holds = subst (λ (form : TextForm). HasCut form s.bytes c.read_once.new.self.piece.items c.read_once.new.self.run began (held (g.A.Sink.written c.read_once.new.answers) (g.A.Sink.faults c.read_once.new.answers) (g.F.Sink.written c.read_once.new.frames) (g.F.Sink.faults c.read_once.new.frames))) c.input.invariant.form s.holds.1;
      };
}

pub unreachable-requires : goal.unreachable-requires
unreachable-requires g c = omega (arith, c.input.invariant.counts, few_read c.input.self.run c.input.invariant.ready, short_piece c.args.self.now.run.form c.input.self.piece.items c.input.invariant.begun, c.input-test.false)
