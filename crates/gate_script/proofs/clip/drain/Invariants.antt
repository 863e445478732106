use Rattle.std.proofs.Common.{◌≡◌, ◌+◌, ◌<◌, ◌≤◌, [], length, take, true}
use Rattle.clip_stream.specs.Sources.{HasRoom, IsOver, has_ended, rest_of}
use Rattle.gate_script.specs.Clipping.{HasPulled}
use Rattle.gate_script.proofs.clip.drain.Given as goal

abbrev pub invariant-loop-count : goal.invariant-loop-count
invariant-loop-count g l = record {
  some : 0 < length l.keys;
  fits : l.count ≤ length l.keys;
  pulled : HasPulled l.fn.paster l.paster (take l.count l.keys) (g.A.Sink.written l.fn.answers) (g.A.Sink.written l.answers);
  ended : has_ended l.paster ≡ has_ended l.fn.paster;
  room : l.count ≡ 0 → HasRoom l.paster;
  over : l.count ≡ 0 → has_ended l.fn.paster ≡ true → IsOver l.paster;
  later : g.A.Sink.faults l.fn.answers ≤ g.A.Sink.faults l.answers;
}

abbrev pub decreases-loop-count : goal.decreases-loop-count
decreases-loop-count g l = l.count + length (rest_of l.paster [])
