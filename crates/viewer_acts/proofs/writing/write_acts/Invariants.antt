use Rattle.std.proofs.Common.{◌-◌, ◌≤◌, drop, length}
use Rattle.shared_desk.specs.Members.{Stays}
use Rattle.viewer_acts.proofs.Doings.{SoFar}
use Rattle.viewer_acts.proofs.writing.write_acts.Given as goal

-- the parts before the place are done
abbrev pub invariant-loop-at : goal.invariant-loop-at
invariant-loop-at g l = record {
  stays : Stays l.fn.pass l.pass;
  within : l.at ≤ length l.acts;
  so_far : SoFar l.fn.pass.viewer l.fn.pass.view l.pass.view l.acts (drop l.at l.acts);
}

abbrev pub decreases-loop-at : goal.decreases-loop-at
decreases-loop-at g l = length l.acts - l.at
