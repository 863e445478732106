use Rattle.std.proofs.Common.{◌≡◌, ◌∷◌, refl, arith}
use Rattle.std.specs.Option.{is_some}
use Rattle.script_grammar.specs.declared.line.Line.TheVariants.{Totals as tell_totals}
use Rattle.script_grammar.specs.declared.order.Order.TheVariants.{Told}
use Rattle.gate_script.specs.Sinks.{held}
use Rattle.gate_script.proofs.LoadLaws.{no_memory_totals, totals_placed, totals_told}
use Rattle.gate_script.proofs.load.Load.tell.Goals as goal

pub order-requires : goal.order-requires
order-requires g c = record { few = omega (arith, c.if-self-ge-MOST_ENTRIES.false); placed = totals_placed c.args.self.now.totals (is_some c.args.self.now.run.state.session) c.requires.open; range = tt; sees = tt }

pub returns-then-self-ge-MOST_ENTRIES : goal.returns-then-self-ge-MOST_ENTRIES
returns-then-self-ge-MOST_ENTRIES g c = λ orders began w.
    no_memory_totals orders c.args.self.now.totals c.args.self.now began (held (g.A.Sink.written c.args.answers.now) (g.A.Sink.faults c.args.answers.now) (g.F.Sink.written c.args.frames.now) (g.F.Sink.faults c.args.frames.now)) w

pub returns : goal.returns
returns g c = λ orders began w.
    let n = held (g.A.Sink.written c.args.answers.now) (g.A.Sink.faults c.args.answers.now) (g.F.Sink.written c.args.frames.now) (g.F.Sink.faults c.args.frames.now) in
    let m = held (g.A.Sink.written c.order.new.answers) (g.A.Sink.faults c.order.new.answers) (g.F.Sink.written c.order.new.frames) (g.F.Sink.faults c.order.new.frames) in
    totals_told orders c.args.self.now began n m w c.order.result c.order.new.self (omega (arith, c.if-self-ge-MOST_ENTRIES.false)) (c.order.ensures.step orders began w.at) (c.order.ensures.goes_on orders began w.at)
