use Rattle.std.proofs.Common.{◌≡◌, ◌+◌, ◌∷◌, ◌∙◌, length, ap, refl, sym}
use Rattle.std.specs.Prelude.{Err}
use Rattle.std.specs.Option.{is_some}
use Rattle.std.proofs.lemmas.Result.{err_from_is_err_and}
use Rattle.script_grammar.specs.declared.line.Line.TheVariants.{Acknowledge, Read, Server}
use Rattle.script_grammar.specs.declared.order.Order.TheVariants.{Told, Untold}
use Rattle.script_grammar.specs.Grammar.{judged, lines_of}
use Rattle.gate_script.specs.declared.stop.Stop.{Stop}
use Rattle.gate_script.specs.declared.sight.Sight.TheVariants.{Played, Unplayed}
use Rattle.gate_script.specs.Sinks.{held}
use Rattle.gate_script.specs.Running.{sight_of}
use Rattle.gate_script.proofs.RunLaws.{at_sight, draw_more, draw_sight, piece_read, piece_stops, script_more, script_sight}
use Rattle.gate_script.proofs.run.Run.piece.Goals as goal

pub returns-in_err-draw-in-Draw-clause-step : goal.returns-in_err-draw-in-Draw-clause-step
returns-in_err-draw-in-Draw-clause-step g c = λ pieces began had.
    let p = err_from_is_err_and c.from_residual.result c.from_residual.ensures.1 in
    let stop = c.in_err-draw-in-Draw.field-0.0 in
    let e : c.from_residual.result ≡ Err stop = p.1 ∙ ap (λ (s : Stop). Err s) p.2 in
    let orders = lines_of c.args.self.now.form pieces in
    piece_stops c.args.self.now.form (c.args.piece.now ∷ pieces) (Untold (Acknowledge 1) ∷ Untold (Read 1) ∷ Told (Server c.args.piece.now) ∷ orders) c.draw.new.self began (held (g.A.Sink.written c.draw.new.answers) (g.A.Sink.faults c.draw.new.answers) (g.F.Sink.written c.draw.new.frames) (g.F.Sink.faults c.draw.new.frames)) c.from_residual.result stop
    (draw_more c.args.self.now.form c.in-Draw.field-0 pieces c.args.piece.now c.in-Draw.is) e (c.in_err-draw-in-Draw.ensures.step orders began (at_sight (sight_of c.args.self.now.form) Unplayed orders c.args.self.now began (held (g.A.Sink.written c.args.answers.now) (g.A.Sink.faults c.args.answers.now) (g.F.Sink.written c.args.frames.now) (g.F.Sink.faults c.args.frames.now)) (draw_sight c.args.self.now.form c.in-Draw.field-0 c.in-Draw.is) had.at))

pub returns-in_ok-draw-in-Draw-clause-step : goal.returns-in_ok-draw-in-Draw-clause-step
returns-in_ok-draw-in-Draw-clause-step g c = λ pieces began had.
    let orders = lines_of c.args.self.now.form pieces in
    piece_read c.args.self.now.form pieces c.args.piece.now (Untold (Acknowledge 1) ∷ Untold (Read 1) ∷ Told (Server c.args.piece.now) ∷ orders) c.draw.new.self
    record { form = c.draw.new.self.form; state = c.draw.new.self.state; lines = c.draw.new.self.lines; read = c.draw.new.self.read + length c.args.piece.now } began (held (g.A.Sink.written c.draw.new.answers) (g.A.Sink.faults c.draw.new.answers) (g.F.Sink.written c.draw.new.frames) (g.F.Sink.faults c.draw.new.frames))
    (draw_more c.args.self.now.form c.in-Draw.field-0 pieces c.args.piece.now c.in-Draw.is) refl refl (ap (λ n. n + length c.args.piece.now) (c.in_ok-draw-in-Draw.ensures.read ∙ had.read)) (at_sight Unplayed (sight_of c.args.self.now.form) (Untold (Acknowledge 1) ∷ Untold (Read 1) ∷ Told (Server c.args.piece.now) ∷ orders) c.draw.new.self began (held (g.A.Sink.written c.draw.new.answers) (g.A.Sink.faults c.draw.new.answers) (g.F.Sink.written c.draw.new.frames) (g.F.Sink.faults c.draw.new.frames)) (sym (draw_sight c.args.self.now.form c.in-Draw.field-0 c.in-Draw.is))
    (c.in_ok-draw-in-Draw.ensures.step orders began (at_sight (sight_of c.args.self.now.form) Unplayed orders c.args.self.now began (held (g.A.Sink.written c.args.answers.now) (g.A.Sink.faults c.args.answers.now) (g.F.Sink.written c.args.frames.now) (g.F.Sink.faults c.args.frames.now)) (draw_sight c.args.self.now.form c.in-Draw.field-0 c.in-Draw.is) had.at)))

pub returns-in_err-script_line-in-Script-clause-step : goal.returns-in_err-script_line-in-Script-clause-step
returns-in_err-script_line-in-Script-clause-step g c = λ pieces began had.
    let p = err_from_is_err_and c.from_residual-in_err-script_line-in-Script.result c.from_residual-in_err-script_line-in-Script.ensures.1 in
    let stop = c.in_err-script_line-in-Script.field-0.0 in
    let e : c.from_residual-in_err-script_line-in-Script.result ≡ Err stop = p.1 ∙ ap (λ (s : Stop). Err s) p.2 in
    let orders = lines_of c.args.self.now.form pieces in
    piece_stops c.args.self.now.form (c.args.piece.now ∷ pieces) (Told (judged c.in-Script.entries (is_some c.args.self.now.state.session) c.args.self.now.read c.args.piece.now) ∷ orders) c.script_line.new.self began (held (g.A.Sink.written c.script_line.new.answers) (g.A.Sink.faults c.script_line.new.answers) (g.F.Sink.written c.script_line.new.frames) (g.F.Sink.faults c.script_line.new.frames)) c.from_residual-in_err-script_line-in-Script.result stop
    (script_more c.args.self.now.form c.in-Script.entries pieces c.args.piece.now (is_some c.args.self.now.state.session) c.args.self.now.read c.in-Script.is had.at.opened had.read) e (c.in_err-script_line-in-Script.ensures.step orders began (at_sight (sight_of c.args.self.now.form) Played orders c.args.self.now began (held (g.A.Sink.written c.args.answers.now) (g.A.Sink.faults c.args.answers.now) (g.F.Sink.written c.args.frames.now) (g.F.Sink.faults c.args.frames.now)) (script_sight c.args.self.now.form c.in-Script.entries c.in-Script.is) had.at))

pub returns-in_ok-script_line-in-Script-clause-step : goal.returns-in_ok-script_line-in-Script-clause-step
returns-in_ok-script_line-in-Script-clause-step g c = λ pieces began had.
    let orders = lines_of c.args.self.now.form pieces in
    piece_read c.args.self.now.form pieces c.args.piece.now (Told (judged c.in-Script.entries (is_some c.args.self.now.state.session) c.args.self.now.read c.args.piece.now) ∷ orders) c.script_line.new.self
    record { form = c.script_line.new.self.form; state = c.script_line.new.self.state; lines = c.script_line.new.self.lines; read = c.script_line.new.self.read + length c.args.piece.now } began (held (g.A.Sink.written c.script_line.new.answers) (g.A.Sink.faults c.script_line.new.answers) (g.F.Sink.written c.script_line.new.frames) (g.F.Sink.faults c.script_line.new.frames))
    (script_more c.args.self.now.form c.in-Script.entries pieces c.args.piece.now (is_some c.args.self.now.state.session) c.args.self.now.read c.in-Script.is had.at.opened had.read) refl refl (ap (λ n. n + length c.args.piece.now) (c.in_ok-script_line-in-Script.ensures.read ∙ had.read)) (at_sight Played (sight_of c.args.self.now.form) (Told (judged c.in-Script.entries (is_some c.args.self.now.state.session) c.args.self.now.read c.args.piece.now) ∷ orders) c.script_line.new.self began (held (g.A.Sink.written c.script_line.new.answers) (g.A.Sink.faults c.script_line.new.answers) (g.F.Sink.written c.script_line.new.frames) (g.F.Sink.faults c.script_line.new.frames)) (sym (script_sight c.args.self.now.form c.in-Script.entries c.in-Script.is))
    (c.in_ok-script_line-in-Script.ensures.step orders began (at_sight (sight_of c.args.self.now.form) Played orders c.args.self.now began (held (g.A.Sink.written c.args.answers.now) (g.A.Sink.faults c.args.answers.now) (g.F.Sink.written c.args.frames.now) (g.F.Sink.faults c.args.frames.now)) (script_sight c.args.self.now.form c.in-Script.entries c.in-Script.is) had.at)))
