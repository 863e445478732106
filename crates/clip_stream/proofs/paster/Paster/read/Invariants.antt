use Rattle.std.proofs.Common.{◌≡◌, ◌≤◌, []}
use Rattle.gate_outside.specs.Edge.{most_faults}
use Rattle.clip_stream.specs.Sources.{WentFar}
use Rattle.clip_stream.proofs.paster.Paster.read.Given as goal

abbrev pub invariant-loop-turn : goal.invariant-loop-turn
invariant-loop-turn g l = record {
  went : WentFar l._turn (g.S.Source.left l.fn.source) (g.S.Source.left l.source) l.fn.self l.self [];
  into : l.into ≡ l.fn.into;
  later : g.S.Source.faults l.fn.source ≤ g.S.Source.faults l.source;
  few : g.S.Source.faults l.fn.source ≤ most_faults → g.S.Source.faults l.source ≤ most_faults;
}
