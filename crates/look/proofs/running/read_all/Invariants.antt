use Rattle.std.proofs.Common.{◌≡◌, ◌≤◌, vec_len}
use Rattle.gate_outside.specs.Edge.{came}
use Rattle.look.proofs.running.read_all.Given as goal

abbrev pub invariant-loop-read : goal.invariant-loop-read
invariant-loop-read g l = record {
  room : vec_len l.buffer ≡ 65536;
  later : g.S.Source.faults l.fn.source ≤ g.S.Source.faults l.source;
  read : g.S.Source.left l.fn.source ≡ came l.input.items (g.S.Source.left l.source);
}
