use Rattle.http_tunnel.proofs.TunnelReads.{took_from, took_none}
use Rattle.http_tunnel.proofs.read.take_from.Goals as goal

pub returns-in-Some : goal.returns-in-Some
returns-in-Some g c = took_from c.args.id.now _ _ _ (g.T.Shelf.told c.args.tunnels.now) (g.T.Shelf.told c.back.new.self) c.back.ensures c.in-Some.ensures

pub returns-in-None : goal.returns-in-None
returns-in-None g c = took_none c.args.id.now _ _ (g.T.Shelf.told c.args.tunnels.now) (g.T.Shelf.told c.back.new.self) c.back.ensures c.in-None.ensures
