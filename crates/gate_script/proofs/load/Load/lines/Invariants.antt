use Rattle.std.proofs.Common.{◌≡◌, ◌++◌, List, map, reverse, length, true}
use Rattle.std.specs.Prelude.{All}
use Rattle.std.specs.Option.{is_some}
use Rattle.script_grammar.specs.declared.line.Line.{Line}
use Rattle.script_grammar.specs.declared.order.Order.{Order}
use Rattle.script_grammar.specs.declared.order.Order.TheVariants.{Untold}
use Rattle.script_load.specs.Rounds.{IsRoundLine}
use Rattle.gate_script.specs.Sinks.{Sinks, held}
use Rattle.gate_script.specs.Loading.{LoadAt}
use Rattle.gate_script.proofs.load.Load.lines.Given as goal

abbrev pub invariant-loop-line : goal.invariant-loop-line
invariant-loop-line g l = record {
  opened : is_some l.self.run.state.session ≡ true;
  rounds : All IsRoundLine l.lines.items;
  done : (ended : List Line) × (reverse l.fn.lines.items ≡ l.lines.items ++ ended) × ((orders : List Order) (began : Sinks) → LoadAt orders l.fn.self began (held (g.A.Sink.written l.fn.answers) (g.A.Sink.faults l.fn.answers) (g.F.Sink.written l.fn.frames) (g.F.Sink.faults l.fn.frames))
      → LoadAt (map Untold ended ++ orders) l.self began (held (g.A.Sink.written l.answers) (g.A.Sink.faults l.answers) (g.F.Sink.written l.frames) (g.F.Sink.faults l.frames)));
}

abbrev pub decreases-loop-line : goal.decreases-loop-line
decreases-loop-line g l = length l.lines.items
