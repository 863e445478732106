use Rattle.std.proofs.Common.{◌≤◌, ℕ, List, length, sym, subst}
use Rattle.display_history.specs.Keeping.{AreRising}
use Rattle.desk_core.proofs.Bringing.{rising_after}
use Rattle.desk_core.proofs.FrameTexts.{few_after}
use Rattle.desk_core.proofs.frames.Frames.after.Goals as goal

pub returns-clause-few : goal.returns-clause-few
returns-clause-few c = subst (λ (fs : List (ℕ × List ℕ)). length fs ≤ 256) (sym c.after.ensures.kept) (few_after c.kept_are_few.ensures c.self.inside.kept c.self.invariant.0 c.args.stamp c.self.invariant.1)

pub returns-clause-rising : goal.returns-clause-rising
returns-clause-rising c =
    let all = c.self.invariant.0 in
    subst (AreRising c.args.stamp) (sym (c.after.ensures.all all c.self.invariant.1)) (rising_after 0 c.args.stamp all c.self.invariant.1.rising)
