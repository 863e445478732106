use Rattle.http_tunnel.proofs.Bodies.{SoFar}
use Rattle.http_tunnel.proofs.acts.read_body.Given as goal

abbrev pub invariant-reading : goal.invariant-reading
invariant-reading l = SoFar l.body l.rest l.wanted l._before
