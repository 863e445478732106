use Rattle.std.proofs.Common.{◌≡◌, ◌∷◌, ap, sym, ◌∙◌, subst}
use Rattle.std.specs.Prelude.{Result, Err}
use Rattle.std.proofs.lemmas.Result.{err_from_is_err_and}
use Rattle.script_grammar.specs.declared.text_form.TextForm.{TextForm}
use Rattle.gate_script.specs.declared.stop.Stop.{Stop}
use Rattle.script_grammar.specs.Grammar.{ending, all_lines, lines_of}
use Rattle.gate_script.specs.Sinks.{held}
use Rattle.gate_script.specs.Running.{LastEnds, HasDone}
use Rattle.script_grammar.proofs.GrammarLaws.{some_bytes, no_bytes}
use Rattle.gate_script.proofs.InputLaws.{ended_whole, ended_amidst, stopped_amidst}
use Rattle.gate_script.proofs.input.Input.finish.Goals as goal

pub returns-then-is_empty : goal.returns-then-is_empty
returns-then-is_empty g c = λ bytes began h.
    ended_whole c.args.self.now.run.form bytes c.args.self.now.piece.items c.args.self.now.run c.args.self.now.run began (held (g.A.Sink.written c.args.answers.now) (g.A.Sink.faults c.args.answers.now) (g.F.Sink.written c.args.frames.now) (g.F.Sink.faults c.args.frames.now)) (held (g.A.Sink.written c.finish.new.answers) (g.A.Sink.faults c.finish.new.answers) (g.F.Sink.written c.finish.new.frames) (g.F.Sink.faults c.finish.new.frames)) h c.deref-piece.result.now c.finish.result c.deref-piece.ensures.value
    (no_bytes c.deref-piece.result.now c.is_empty.result c.is_empty.ensures c.if-is_empty.true) (c.finish.ensures h.pieces began h.has_done)

pub returns-in_err-piece : goal.returns-in_err-piece
returns-in_err-piece g c = λ bytes began h.
    let p = err_from_is_err_and c.from_residual.result c.from_residual.ensures.1 in
    let stop = c.in_err-piece.field-0.0 in
    let e : c.from_residual.result ≡ Err stop = p.1 ∙ ap (λ (s : Stop). Err s) p.2 in
    subst (λ (x : Result (Unit {0}) Stop). LastEnds (all_lines c.args.self.now.run.form bytes) x began (held (g.A.Sink.written c.piece.new.answers) (g.A.Sink.faults c.piece.new.answers) (g.F.Sink.written c.piece.new.frames) (g.F.Sink.faults c.piece.new.frames))) (sym e)
    (stopped_amidst c.args.self.now.run.form bytes c.args.self.now.piece.items c.args.self.now.run c.piece.new.self began (held (g.A.Sink.written c.args.answers.now) (g.A.Sink.faults c.args.answers.now) (g.F.Sink.written c.args.frames.now) (g.F.Sink.faults c.args.frames.now)) (held (g.A.Sink.written c.piece.new.answers) (g.A.Sink.faults c.piece.new.answers) (g.F.Sink.written c.piece.new.frames) (g.F.Sink.faults c.piece.new.frames)) h c.deref-piece.result.now stop c.deref-piece.ensures.value
    (some_bytes c.deref-piece.result.now c.is_empty.result c.is_empty.ensures c.if-is_empty.false) (c.in_err-piece.ensures.step h.pieces began h.has_done))

pub returns : goal.returns
returns g c = λ bytes began h.
    let own = c.deref-piece.result.now in
    let e = c.finish-2.ensures (own ∷ h.pieces) began (subst (λ (form : TextForm). HasDone form (own ∷ h.pieces) c.piece.new.self began (held (g.A.Sink.written c.piece.new.answers) (g.A.Sink.faults c.piece.new.answers) (g.F.Sink.written c.piece.new.frames) (g.F.Sink.faults c.piece.new.frames))) (sym c.in_ok-piece.ensures.form) (c.in_ok-piece.ensures.step h.pieces began h.has_done)) in
    ended_amidst c.args.self.now.run.form bytes c.args.self.now.piece.items c.args.self.now.run c.piece.new.self began (held (g.A.Sink.written c.args.answers.now) (g.A.Sink.faults c.args.answers.now) (g.F.Sink.written c.args.frames.now) (g.F.Sink.faults c.args.frames.now)) (held (g.A.Sink.written c.finish-2.new.answers) (g.A.Sink.faults c.finish-2.new.answers) (g.F.Sink.written c.finish-2.new.frames) (g.F.Sink.faults c.finish-2.new.frames)) h own c.finish-2.result c.deref-piece.ensures.value
    (some_bytes own c.is_empty.result c.is_empty.ensures c.if-is_empty.false)
    (subst (λ (form : TextForm). LastEnds (ending form (lines_of form (own ∷ h.pieces))) c.finish-2.result began (held (g.A.Sink.written c.finish-2.new.answers) (g.A.Sink.faults c.finish-2.new.answers) (g.F.Sink.written c.finish-2.new.frames) (g.F.Sink.faults c.finish-2.new.frames))) c.in_ok-piece.ensures.form e)
