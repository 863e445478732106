use Rattle.session_link.proofs.Closed.{has_closed}
use Rattle.session_link.proofs.closing.close_link.Goals as goal

pub returns-then-is_ok-clause-closed : goal.returns-then-is_ok-clause-closed
returns-then-is_ok-clause-closed g c = has_closed _ _ c.args.cause c.close.result c.close.ensures.called

pub returns-else-is_ok-clause-closed : goal.returns-else-is_ok-clause-closed
returns-else-is_ok-clause-closed g c = has_closed _ _ c.args.cause c.close.result c.close.ensures.called
