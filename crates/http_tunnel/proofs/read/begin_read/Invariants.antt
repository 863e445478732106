use Rattle.http_tunnel.proofs.TunnelReads.{StillHome}
use Rattle.http_tunnel.proofs.read.begin_read.Given as goal

abbrev pub invariant-loop : goal.invariant-loop
invariant-loop g l = StillHome (g.T.Shelf.told l.fn.tunnels) (g.T.Shelf.told l.tunnels)
