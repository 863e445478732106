use Rattle.std.proofs.Common.{◌≡◌, ◌<◌, ◌≤◌, ◌-◌, length, vec_len}
use Rattle.gate_outside.specs.Edge.{came}
use Rattle.gate_script.proofs.play.read_parts.Given as goal

abbrev pub invariant-loop-source : goal.invariant-loop-source
invariant-loop-source g l = record {
  some : 0 < length l.piece;
  later : g.S.Source.faults l.fn.source ≤ g.S.Source.faults l.source;
  read : g.S.Source.left l.fn.source ≡ came l.bytes.items (g.S.Source.left l.source);
}

abbrev pub decreases-loop-source : goal.decreases-loop-source
decreases-loop-source g l = 67108865 - vec_len l.bytes
