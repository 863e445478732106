use Rattle.std.proofs.Common.{◌≡◌, ℕ, List, true}
use Rattle.std.specs.Option.{is_some}
use Rattle.script_grammar.specs.declared.order.Order.{Order}
use Rattle.gate_script.specs.Sinks.{Sinks, held}
use Rattle.gate_script.specs.Loading.{LoadAt, takes_behind}
use Rattle.gate_script.proofs.load.Load.take_all.Given as goal

abbrev pub invariant-loop-taken : goal.invariant-loop-taken
invariant-loop-taken g l = record {
  opened : is_some l.self.run.state.session ≡ true;
  done : (orders : List Order) (began : Sinks) → LoadAt orders l.fn.self began (held (g.A.Sink.written l.fn.answers) (g.A.Sink.faults l.fn.answers) (g.F.Sink.written l.fn.frames) (g.F.Sink.faults l.fn.frames))
      → LoadAt (takes_behind orders l._taken) l.self began (held (g.A.Sink.written l.answers) (g.A.Sink.faults l.answers) (g.F.Sink.written l.frames) (g.F.Sink.faults l.frames));
}
