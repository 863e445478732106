use Rattle.std.proofs.Common.{◌≡◌, ◌-◌, ◌<◌, ◌≤◌, length, take, false}
use Rattle.std.specs.Prelude.{Ok}
use Rattle.clip_stream.specs.Sources.{HasRoom, has_ended}
use Rattle.gate_script.specs.Clipping.{HasWritten}
use Rattle.gate_script.proofs.clip.paste.Given as goal

abbrev pub invariant-loop-at : goal.invariant-loop-at
invariant-loop-at g l = record {
  some : 0 < length l.keys;
  within : l.at ≤ length l.piece;
  written : HasWritten (Ok tt) l.fn.paster (take l.at l.piece) l.paster (g.A.Sink.written l.fn.answers) (g.A.Sink.written l.answers);
  begun : has_ended l.paster ≡ false;
  room : HasRoom l.paster;
  later : g.A.Sink.faults l.fn.answers ≤ g.A.Sink.faults l.answers;
}

abbrev pub decreases-loop-at : goal.decreases-loop-at
decreases-loop-at g l = length l.piece - l.at
