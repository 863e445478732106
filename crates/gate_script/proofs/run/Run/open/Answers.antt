use Rattle.std.proofs.Common.{◌≡◌, ◌∷◌, [], ◌∙◌, ap, refl, sym, subst}
use Rattle.std.specs.Prelude.{Ok, Err}
use Rattle.std.proofs.lemmas.Result.{err_from_is_err_and}
use Rattle.gate_model.specs.declared.sharing.Asked.TheVariants.{Owner}
use Rattle.gate_model.specs.declared.sharing.Share.TheVariants.{Nobody}
use Rattle.gate_model.specs.Limits.{most_entries}
use Rattle.script_grammar.specs.declared.line.Line.TheVariants.{Join, Start}
use Rattle.script_grammar.specs.declared.order.Order.TheVariants.{Told}
use Rattle.gate_script.specs.declared.stop.Stop.{Stop}
use Rattle.gate_script.specs.declared.sight.Sight.{Sight}
use Rattle.gate_script.specs.declared.sight.Sight.TheVariants.{Unplayed}
use Rattle.gate_script.specs.Sinks.{held}
use Rattle.gate_script.specs.Running.{Ends, sight_of}
use Rattle.gate_script.proofs.RunLaws.{draw_begins, draw_sight, nothing_done, piece_ends, piece_stops, script_begins, stopped-later}
use Rattle.gate_script.proofs.run.Run.open.Goals as goal

pub returns-in_err-order-in-Draw-clause-step : goal.returns-in_err-order-in-Draw-clause-step
returns-in_err-order-in-Draw-clause-step g c =
    let p = err_from_is_err_and c.from_residual.result c.from_residual.ensures.1 in
    let stop = c.in_err-order-in-Draw.field-0.0 in
    let e : c.from_residual.result ≡ Err stop = p.1 ∙ ap (λ (s : Stop). Err s) p.2 in
    let start = Told (Start c.in-Draw.size Nobody most_entries) in
    piece_stops c.args.self.now.form [] (Told (Join Owner) ∷ start ∷ []) c.order.new.self (held (g.A.Sink.written c.args.answers.now) (g.A.Sink.faults c.args.answers.now) (g.F.Sink.written c.args.frames.now) (g.F.Sink.faults c.args.frames.now)) (held (g.A.Sink.written c.order.new.answers) (g.A.Sink.faults c.order.new.answers) (g.F.Sink.written c.order.new.frames) (g.F.Sink.faults c.order.new.frames)) c.from_residual.result stop (draw_begins c.args.self.now.form c.in-Draw.size c.in-Draw.is) e
    (stopped-later (start ∷ []) (Told (Join Owner) ∷ start ∷ []) stop (held (g.A.Sink.written c.args.answers.now) (g.A.Sink.faults c.args.answers.now) (g.F.Sink.written c.args.frames.now) (g.F.Sink.faults c.args.frames.now)) (held (g.A.Sink.written c.order.new.answers) (g.A.Sink.faults c.order.new.answers) (g.F.Sink.written c.order.new.frames) (g.F.Sink.faults c.order.new.frames)) (Told (Join Owner) ∷ [], refl) (c.in_err-order-in-Draw.ensures.step [] (held (g.A.Sink.written c.args.answers.now) (g.A.Sink.faults c.args.answers.now) (g.F.Sink.written c.args.frames.now) (g.F.Sink.faults c.args.frames.now)) (nothing_done Unplayed c.args.self.now (held (g.A.Sink.written c.args.answers.now) (g.A.Sink.faults c.args.answers.now) (g.F.Sink.written c.args.frames.now) (g.F.Sink.faults c.args.frames.now)) c.requires.moment c.requires.session c.requires.lines)))

pub returns-in_ok-order-in-Draw-clause-step : goal.returns-in_ok-order-in-Draw-clause-step
returns-in_ok-order-in-Draw-clause-step g c =
    let start = Told (Start c.in-Draw.size Nobody most_entries) in
    piece_ends c.args.self.now.form [] (Told (Join Owner) ∷ start ∷ []) c.order-in-Draw.new.self (held (g.A.Sink.written c.args.answers.now) (g.A.Sink.faults c.args.answers.now) (g.F.Sink.written c.args.frames.now) (g.F.Sink.faults c.args.frames.now)) (held (g.A.Sink.written c.order-in-Draw.new.answers) (g.A.Sink.faults c.order-in-Draw.new.answers) (g.F.Sink.written c.order-in-Draw.new.frames) (g.F.Sink.faults c.order-in-Draw.new.frames)) c.order-in-Draw.result (draw_begins c.args.self.now.form c.in-Draw.size c.in-Draw.is)
    (c.order-in-Draw.ensures.read ∙ (c.in_ok-order-in-Draw.ensures.read ∙ c.requires.read))
    (subst (λ (s : Sight). Ends s (Told (Join Owner) ∷ start ∷ []) c.order-in-Draw.result c.order-in-Draw.new.self (held (g.A.Sink.written c.args.answers.now) (g.A.Sink.faults c.args.answers.now) (g.F.Sink.written c.args.frames.now) (g.F.Sink.faults c.args.frames.now)) (held (g.A.Sink.written c.order-in-Draw.new.answers) (g.A.Sink.faults c.order-in-Draw.new.answers) (g.F.Sink.written c.order-in-Draw.new.frames) (g.F.Sink.faults c.order-in-Draw.new.frames))) (sym (draw_sight c.args.self.now.form c.in-Draw.size c.in-Draw.is))
    (c.order-in-Draw.ensures.step (start ∷ []) (held (g.A.Sink.written c.args.answers.now) (g.A.Sink.faults c.args.answers.now) (g.F.Sink.written c.args.frames.now) (g.F.Sink.faults c.args.frames.now)) (c.in_ok-order-in-Draw.ensures.step [] (held (g.A.Sink.written c.args.answers.now) (g.A.Sink.faults c.args.answers.now) (g.F.Sink.written c.args.frames.now) (g.F.Sink.faults c.args.frames.now)) (nothing_done Unplayed c.args.self.now (held (g.A.Sink.written c.args.answers.now) (g.A.Sink.faults c.args.answers.now) (g.F.Sink.written c.args.frames.now) (g.F.Sink.faults c.args.frames.now)) c.requires.moment c.requires.session c.requires.lines))))

pub returns-in-Script-clause-step : goal.returns-in-Script-clause-step
returns-in-Script-clause-step g c = piece_ends c.args.self.now.form [] [] c.args.self.now (held (g.A.Sink.written c.args.answers.now) (g.A.Sink.faults c.args.answers.now) (g.F.Sink.written c.args.frames.now) (g.F.Sink.faults c.args.frames.now)) (held (g.A.Sink.written c.args.answers.now) (g.A.Sink.faults c.args.answers.now) (g.F.Sink.written c.args.frames.now) (g.F.Sink.faults c.args.frames.now)) (Ok tt) (script_begins c.args.self.now.form c.in-Script.field-0 c.in-Script.is) c.requires.read (nothing_done (sight_of c.args.self.now.form) c.args.self.now (held (g.A.Sink.written c.args.answers.now) (g.A.Sink.faults c.args.answers.now) (g.F.Sink.written c.args.frames.now) (g.F.Sink.faults c.args.frames.now)) c.requires.moment c.requires.session c.requires.lines)
