use Rattle.http_tunnel.proofs.Bodies.{bad_none}
use Rattle.http_tunnel.proofs.acts.take_next.Goals as goal

pub returns-in-More : goal.returns-in-More
returns-in-More c = c.in-More.ensures.more.none

pub returns-in-Bad : goal.returns-in-Bad
returns-in-Bad c = bad_none _ _ c.in-Bad.ensures.bad
