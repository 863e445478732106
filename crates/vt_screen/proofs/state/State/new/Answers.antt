use Rattle.std.proofs.Common.{refl}
use Rattle.vt_screen.proofs.Sound.{opened}
use Rattle.vt_screen.proofs.state.State.new.Goals as goal

pub invariant_of-result : goal.invariant_of-result
invariant_of-result c = opened _ c.args.cols c.args.rows c.requires refl refl c.in_ok-grid.ensures.blank c.in_ok-stops.ensures refl refl refl refl refl
