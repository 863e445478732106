use Rattle.std.proofs.Common.{◌≡◌, ◌-◌, ◌<◌, ◌≤◌, length, false}
use Rattle.clip_stream.specs.Sources.{HasRoom, has_ended}
use Rattle.gate_script.specs.Clipping.{Copied}
use Rattle.gate_script.proofs.clip.copy.Given as goal

abbrev pub invariant-loop-read : goal.invariant-loop-read
invariant-loop-read g l = record {
  piece : 0 < length l.piece;
  keys : 0 < length l.keys;
  copied : Copied (g.S.Source.left l.fn.source) (g.S.Source.left l.source) (g.A.Sink.written l.fn.answers) (g.A.Sink.written l.answers) l.paster l.read;
  begun : has_ended l.paster ≡ false;
  room : HasRoom l.paster;
  later_source : g.S.Source.faults l.fn.source ≤ g.S.Source.faults l.source;
  later_answers : g.A.Sink.faults l.fn.answers ≤ g.A.Sink.faults l.answers;
}

abbrev pub decreases-loop-read : goal.decreases-loop-read
decreases-loop-read g l = 67108865 - l.read
