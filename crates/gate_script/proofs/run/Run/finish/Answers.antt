use Rattle.std.proofs.Common.{◌∷◌, List, subst}
use Rattle.script_grammar.specs.declared.line.Line.TheVariants.{Done}
use Rattle.script_grammar.specs.declared.order.Order.{Order}
use Rattle.script_grammar.specs.declared.order.Order.TheVariants.{Told}
use Rattle.script_grammar.specs.Grammar.{lines_of}
use Rattle.gate_script.specs.declared.sight.Sight.TheVariants.{Unplayed}
use Rattle.gate_script.specs.Sinks.{held}
use Rattle.gate_script.specs.Running.{AllDone, LastEnds, sight_of}
use Rattle.gate_script.proofs.RunLaws.{all_done, at_sight, draw_ending, draw_sight, last_ends, script_ending}
use Rattle.gate_script.proofs.run.Run.finish.Goals as goal

pub returns-in-Draw : goal.returns-in-Draw
returns-in-Draw g c = λ pieces began had.
    let orders = lines_of c.args.self.now.form pieces in
    subst (λ (os : List Order). LastEnds os c.order.result began (held (g.A.Sink.written c.order.new.answers) (g.A.Sink.faults c.order.new.answers) (g.F.Sink.written c.order.new.frames) (g.F.Sink.faults c.order.new.frames))) (draw_ending c.args.self.now.form c.in-Draw.field-0 orders c.in-Draw.is)
    (last_ends Unplayed (Told Done ∷ orders) c.order.new.self began (held (g.A.Sink.written c.order.new.answers) (g.A.Sink.faults c.order.new.answers) (g.F.Sink.written c.order.new.frames) (g.F.Sink.faults c.order.new.frames)) c.order.result (c.order.ensures.step orders began (at_sight (sight_of c.args.self.now.form) Unplayed orders c.args.self.now began (held (g.A.Sink.written c.args.answers.now) (g.A.Sink.faults c.args.answers.now) (g.F.Sink.written c.args.frames.now) (g.F.Sink.faults c.args.frames.now)) (draw_sight c.args.self.now.form c.in-Draw.field-0 c.in-Draw.is) had.at)))

pub returns-in-Script : goal.returns-in-Script
returns-in-Script g c = λ pieces began had.
    let orders = lines_of c.args.self.now.form pieces in
    subst (λ (os : List Order). AllDone os began (held (g.A.Sink.written c.args.answers.now) (g.A.Sink.faults c.args.answers.now) (g.F.Sink.written c.args.frames.now) (g.F.Sink.faults c.args.frames.now))) (script_ending c.args.self.now.form c.in-Script.field-0 orders c.in-Script.is) (all_done (sight_of c.args.self.now.form) orders c.args.self.now began (held (g.A.Sink.written c.args.answers.now) (g.A.Sink.faults c.args.answers.now) (g.F.Sink.written c.args.frames.now) (g.F.Sink.faults c.args.frames.now)) had.at)
