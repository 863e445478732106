use Rattle.vt_screen.proofs.MendedActs.{opened_left}
use Rattle.vt_screen.proofs.screen.Screen.with_faces.Goals as goal

pub invariant_of-result : goal.invariant_of-result
invariant_of-result c = opened_left _ c.args.faces c.args.cols c.args.rows c.in_ok-state.ensures
