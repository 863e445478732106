use Rattle.std.proofs.Common.{◌≡◌, ◌+◌, ◌≤◌, [], length, vec_len}
use Rattle.std.specs.Prelude.{None}
use Rattle.script_grammar.specs.Pieces.{first_piece}
use Rattle.script_grammar.specs.Grammar.{most_of}
use Rattle.gate_script.specs.Sinks.{Sinks, held}
use Rattle.gate_script.specs.Running.{HasCut, HasRead, IsReady}
use Rattle.gate_script.proofs.input.Input.read_all.Given as goal

abbrev pub invariant-input : goal.invariant-input
invariant-input g l = record {
  ready : IsReady l.self.run;
  form : l.self.run.form ≡ l.fn.self.run.form;
  begun : first_piece (most_of l.fn.self.run.form) l.self.piece.items ≡ None;
  counts : l.counter ≤ l.self.run.read + length l.self.piece.items;
  room : vec_len l.buffer ≡ 65536;
  later_source : g.S.Source.faults l.fn.source ≤ g.S.Source.faults l.source;
  step : (began : Sinks) → HasCut l.fn.self.run.form [] [] l.fn.self.run began (held (g.A.Sink.written l.fn.answers) (g.A.Sink.faults l.fn.answers) (g.F.Sink.written l.fn.frames) (g.F.Sink.faults l.fn.frames))
      → HasRead (g.S.Source.left l.fn.source) (g.S.Source.left l.source) (λ bytes. HasCut l.fn.self.run.form bytes l.self.piece.items l.self.run began (held (g.A.Sink.written l.answers) (g.A.Sink.faults l.answers) (g.F.Sink.written l.frames) (g.F.Sink.faults l.frames)));
}
