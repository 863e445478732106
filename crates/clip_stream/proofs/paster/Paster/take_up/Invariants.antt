use Rattle.std.proofs.Common.{◌≡◌, ◌+◌, false, cond, length, drop}
use Rattle.clip_stream.specs.Sources.{IsDone, Keeps, waits}
use Rattle.clip_stream.proofs.paster.Paster.take_up.Given as goal

abbrev pub invariant-loop-goes_on : goal.invariant-loop-goes_on
invariant-loop-goes_on l = record {
  keeps : Keeps l.fn.self l.self;
  ended : l.self.is_ended ≡ l.fn.self.is_ended;
  done : l.goes_on ≡ false → waits l.self ≡ false → IsDone l.self;
}

abbrev pub decreases-loop-goes_on : goal.decreases-loop-goes_on
decreases-loop-goes_on l = length (drop l.self.kept l.self.held) + cond l.goes_on 1 0
