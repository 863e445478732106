use Rattle.gate_model.specs.declared.cause.Cause.TheVariants.{LinkFault}
use Rattle.session_link.proofs.Closed.{has_closed}
use Rattle.session_link.proofs.closing.close_sending.Goals as goal

pub returns-then-is_ok-clause-closed : goal.returns-then-is_ok-clause-closed
returns-then-is_ok-clause-closed g c = record { closed = has_closed _ _ LinkFault c.close.result c.close.ensures.called; same = c.close.ensures.taken; sent = c.close.ensures.sent }

pub returns-else-is_ok-clause-closed : goal.returns-else-is_ok-clause-closed
returns-else-is_ok-clause-closed g c = record { closed = has_closed _ _ LinkFault c.close.result c.close.ensures.called; same = c.close.ensures.taken; sent = c.close.ensures.sent }
