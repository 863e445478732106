use Rattle.std.proofs.Common.{◌≡◌, ℕ, ◌+◌, ◌-◌, ◌≤◌, List, ◌++◌, length, take}
use Rattle.std.specs.Prelude.{None}
use Rattle.script_grammar.specs.Pieces.{first_piece}
use Rattle.script_grammar.specs.Grammar.{most_of}
use Rattle.gate_script.specs.Sinks.{Sinks, held}
use Rattle.gate_script.specs.Running.{HasCut, IsReady}
use Rattle.gate_script.proofs.input.Input.take.Given as goal

abbrev pub invariant-loop-at : goal.invariant-loop-at
invariant-loop-at g l = record {
  within : l.at ≤ length l.bytes;
  ready : IsReady l.self.run;
  form : l.self.run.form ≡ l.fn.self.run.form;
  begun : first_piece (most_of l.fn.self.run.form) l.self.piece.items ≡ None;
  grows : l.self.run.read + length l.self.piece.items ≡ l.fn.self.run.read + length l.fn.self.piece.items + l.at;
  step : (before : List ℕ) (began : Sinks) → HasCut l.fn.self.run.form before l.fn.self.piece.items l.fn.self.run began (held (g.A.Sink.written l.fn.answers) (g.A.Sink.faults l.fn.answers) (g.F.Sink.written l.fn.frames) (g.F.Sink.faults l.fn.frames))
      → HasCut l.fn.self.run.form (before ++ take l.at l.bytes) l.self.piece.items l.self.run began (held (g.A.Sink.written l.answers) (g.A.Sink.faults l.answers) (g.F.Sink.written l.frames) (g.F.Sink.faults l.frames));
}

abbrev pub decreases-loop-at : goal.decreases-loop-at
decreases-loop-at g l = length l.bytes - l.at
