use Rattle.http_tunnel.proofs.Writing.{left_not, left_now}
use Rattle.http_tunnel.proofs.write.leave_at.Goals as goal

pub returns-then-ends-clause-left : goal.returns-then-ends-clause-left
returns-then-ends-clause-left g c = left_now _ _ _ _ c.if-ends.true c.leave.ensures.left

pub returns-else-ends-clause-left : goal.returns-else-ends-clause-left
returns-else-ends-clause-left g c = left_not _ _ _ c.if-ends.false
