use Rattle.std.proofs.Common.{◌≡◌, ℕ, List, [], ◌∷◌, ◌++◌, take, ap, sym, ◌∙◌, subst}
use Rattle.std.specs.Prelude.{Result, Err, Some, None}
use Rattle.std.proofs.lemmas.Result.{err_from_is_err_and}
use Rattle.gate_script.specs.declared.stop.Stop.{Stop}
use Rattle.gate_script.specs.declared.stop.Stop.TheVariants.{NoMemory}
use Rattle.script_grammar.specs.Pieces.{first_piece}
use Rattle.script_grammar.specs.Grammar.{most_of}
use Rattle.gate_script.specs.Sinks.{held}
use Rattle.gate_script.specs.Running.{PartEnds}
use Rattle.gate_script.proofs.InputLaws.{not_kept, piece_done, piece_stopped, piece_goes_on}
use Rattle.gate_script.proofs.input.Input.take_part.Goals as goal

pub returns-in_err-extend_from_slice-clause-step : goal.returns-in_err-extend_from_slice-clause-step
returns-in_err-extend_from_slice-clause-step g c = λ before began h.
    let p = err_from_is_err_and c.from_residual.result c.from_residual.ensures.1 in
    let e : c.from_residual.result ≡ Err NoMemory = p.1 ∙ ap (λ (s : Stop). Err s) p.2 in
    subst (λ (x : Result ℕ Stop). PartEnds c.args.self.now.run.form before c.args.bytes.now x c.extend_from_slice.new.self.items c.args.self.now.run began (held (g.A.Sink.written c.args.answers.now) (g.A.Sink.faults c.args.answers.now) (g.F.Sink.written c.args.frames.now) (g.F.Sink.faults c.args.frames.now))) (sym e)
    (not_kept c.args.self.now.run.form before c.args.self.now.piece.items c.args.self.now.run c.args.self.now.run began (held (g.A.Sink.written c.args.answers.now) (g.A.Sink.faults c.args.answers.now) (g.F.Sink.written c.args.frames.now) (g.F.Sink.faults c.args.frames.now)) (held (g.A.Sink.written c.args.answers.now) (g.A.Sink.faults c.args.answers.now) (g.F.Sink.written c.args.frames.now) (g.F.Sink.faults c.args.frames.now)) h c.args.bytes.now)

pub returns-in_err-piece-clause-step : goal.returns-in_err-piece-clause-step
returns-in_err-piece-clause-step g c = λ before began h.
    let p = err_from_is_err_and c.from_residual-in_err-piece.result c.from_residual-in_err-piece.ensures.1 in
    let stop = c.in_err-piece.field-0.0 in
    let e : c.from_residual-in_err-piece.result ≡ Err stop = p.1 ∙ ap (λ (s : Stop). Err s) p.2 in
    let count = c.next_part-part.result.count in
    let piece = c.args.self.now.piece.items in
    let own = c.deref-then-part.result.now in
    let own_is : own ≡ piece ++ take count c.args.bytes.now = c.deref-then-part.ensures.value ∙ c.in_ok-extend_from_slice.ensures.items in
    let is_whole : first_piece (most_of c.args.self.now.run.form) (piece ++ take count c.args.bytes.now) ≡ Some ((piece ++ take count c.args.bytes.now) ∷ [], []) =
    subst (λ (m : ℕ). first_piece m (piece ++ take count c.args.bytes.now) ≡ Some ((piece ++ take count c.args.bytes.now) ∷ [], [])) c.most_of.ensures
    (subst (λ (l : List ℕ). first_piece c.most_of.result (l ++ take count c.args.bytes.now) ≡ Some ((l ++ take count c.args.bytes.now) ∷ [], [])) c.deref.ensures.value (c.next_part-part.ensures.whole c.if-part.true)) in
    subst (λ (x : Result ℕ Stop). PartEnds c.args.self.now.run.form before c.args.bytes.now x c.extend_from_slice.new.self.items c.piece.new.self began (held (g.A.Sink.written c.piece.new.answers) (g.A.Sink.faults c.piece.new.answers) (g.F.Sink.written c.piece.new.frames) (g.F.Sink.faults c.piece.new.frames))) (sym e)
    (piece_stopped c.args.self.now.run.form before piece c.args.self.now.run c.piece.new.self began (held (g.A.Sink.written c.args.answers.now) (g.A.Sink.faults c.args.answers.now) (g.F.Sink.written c.args.frames.now) (g.F.Sink.faults c.args.frames.now)) (held (g.A.Sink.written c.piece.new.answers) (g.A.Sink.faults c.piece.new.answers) (g.F.Sink.written c.piece.new.frames) (g.F.Sink.faults c.piece.new.frames)) h c.args.bytes.now count own stop own_is is_whole (c.in_err-piece.ensures.step h.pieces began h.has_done))

pub returns-in_ok-piece-clause-step : goal.returns-in_ok-piece-clause-step
returns-in_ok-piece-clause-step g c = λ before began h.
    let count = c.next_part-part.result.count in
    let piece = c.args.self.now.piece.items in
    let own = c.deref-then-part.result.now in
    let own_is : own ≡ piece ++ take count c.args.bytes.now = c.deref-then-part.ensures.value ∙ c.in_ok-extend_from_slice.ensures.items in
    let is_whole : first_piece (most_of c.args.self.now.run.form) (piece ++ take count c.args.bytes.now) ≡ Some ((piece ++ take count c.args.bytes.now) ∷ [], []) =
    subst (λ (m : ℕ). first_piece m (piece ++ take count c.args.bytes.now) ≡ Some ((piece ++ take count c.args.bytes.now) ∷ [], [])) c.most_of.ensures
    (subst (λ (l : List ℕ). first_piece c.most_of.result (l ++ take count c.args.bytes.now) ≡ Some ((l ++ take count c.args.bytes.now) ∷ [], [])) c.deref.ensures.value (c.next_part-part.ensures.whole c.if-part.true)) in
    piece_done c.args.self.now.run.form before piece c.args.self.now.run c.piece.new.self began (held (g.A.Sink.written c.args.answers.now) (g.A.Sink.faults c.args.answers.now) (g.F.Sink.written c.args.frames.now) (g.F.Sink.faults c.args.frames.now)) (held (g.A.Sink.written c.piece.new.answers) (g.A.Sink.faults c.piece.new.answers) (g.F.Sink.written c.piece.new.frames) (g.F.Sink.faults c.piece.new.frames)) h (take count c.args.bytes.now) own c.clear.new.self.items own_is c.clear.ensures.items is_whole (c.in_ok-piece.ensures.step h.pieces began h.has_done)

pub returns-else-part-clause-step : goal.returns-else-part-clause-step
returns-else-part-clause-step g c = λ before began h.
    let count = c.next_part-part.result.count in
    let piece = c.args.self.now.piece.items in
    let open_ : first_piece (most_of c.args.self.now.run.form) (piece ++ take count c.args.bytes.now) ≡ None =
    subst (λ (m : ℕ). first_piece m (piece ++ take count c.args.bytes.now) ≡ None) c.most_of.ensures (subst (λ (l : List ℕ). first_piece c.most_of.result (l ++ take count c.args.bytes.now) ≡ None) c.deref.ensures.value (c.next_part-part.ensures.unfinished c.if-part.false)) in
    piece_goes_on c.args.self.now.run.form before piece c.args.self.now.run c.args.self.now.run began (held (g.A.Sink.written c.args.answers.now) (g.A.Sink.faults c.args.answers.now) (g.F.Sink.written c.args.frames.now) (g.F.Sink.faults c.args.frames.now)) (held (g.A.Sink.written c.args.answers.now) (g.A.Sink.faults c.args.answers.now) (g.F.Sink.written c.args.frames.now) (g.F.Sink.faults c.args.frames.now)) h (take count c.args.bytes.now) c.extend_from_slice.new.self.items c.in_ok-extend_from_slice.ensures.items open_
