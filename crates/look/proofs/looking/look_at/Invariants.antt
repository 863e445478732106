use Rattle.std.proofs.Common.{length, ◌-◌, ◌≤◌}
use Rattle.canvas.specs.Standing.{ArePlayable}
use Rattle.look.specs.Shown.{IsShown}
use Rattle.look.proofs.looking.look_at.Given as goal

abbrev pub invariant-loop-at : goal.invariant-loop-at
invariant-loop-at l = record {
  within : l.at ≤ length l.text;
  counted : l.view.marks.syncs ≤ l.at;
  playable : ArePlayable l.view.waiting.items;
  shown : IsShown l.text l.until l.view.marks l.at l.view.canvas l.view.waiting.items;
}

abbrev pub decreases-loop-at : goal.decreases-loop-at
decreases-loop-at l = length l.text - l.at
