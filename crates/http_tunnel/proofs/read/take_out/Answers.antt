use Rattle.http_tunnel.proofs.TunnelReads.{home_not_lent, took_out, was_absent}
use Rattle.http_tunnel.proofs.Shelves.{is_lent}
use Rattle.http_tunnel.proofs.read.take_out.Goals as goal

pub lend-requires : goal.lend-requires
lend-requires g c = home_not_lent c.args.id.now (g.T.Shelf.told c.args.tunnels.now) c.requires

pub take_from-requires : goal.take_from-requires
take_from-requires g c = is_lent c.args.id.now _ (g.T.Shelf.told c.args.tunnels.now) (g.T.Shelf.told c.lend.new.self) c.in-Some.ensures

pub returns-in-Some : goal.returns-in-Some
returns-in-Some g c = took_out c.args.id.now _ (g.T.Shelf.told c.args.tunnels.now) (g.T.Shelf.told c.lend.new.self) (g.T.Shelf.told c.take_from.new.tunnels) c.take_from.result c.requires c.in-Some.ensures c.take_from.ensures

pub returns-in-None : goal.returns-in-None
returns-in-None g c = was_absent c.args.id.now (g.T.Shelf.told c.args.tunnels.now) (g.T.Shelf.told c.lend.new.self) c.in-None.ensures
