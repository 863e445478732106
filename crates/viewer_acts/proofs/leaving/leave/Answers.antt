use Rattle.viewer_acts.proofs.Leavings.{left_now}
use Rattle.viewer_acts.proofs.leaving.leave.Goals as goal

pub returns-then-is_ok-clause-left : goal.returns-then-is_ok-clause-left
returns-then-is_ok-clause-left g c = left_now _ _ _ c.leave.result c.history_is_sound.ensures.knows c.leave.ensures.called c.leave.ensures.own

pub returns-else-is_ok-clause-left : goal.returns-else-is_ok-clause-left
returns-else-is_ok-clause-left g c = left_now _ _ _ c.leave.result c.history_is_sound.ensures.knows c.leave.ensures.called c.leave.ensures.own
