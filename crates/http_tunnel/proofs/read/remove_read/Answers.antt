use Rattle.std.proofs.Common.{true, false, refl}
use Rattle.http_tunnel.proofs.Places.{of_removed}
use Rattle.http_tunnel.proofs.TunnelReads.{removed_none, removed_some, there_not_lent}
use Rattle.http_tunnel.proofs.read.remove_read.Goals as goal

pub remove-requires : goal.remove-requires
remove-requires g c = there_not_lent c.args.id.now (g.T.Shelf.told c.args.tunnels.now) c.requires

pub returns-in-Some : goal.returns-in-Some
returns-in-Some g c = (true, (c.in-Some.tunnel.id, of_removed c.args.id.now c.in-Some.tunnel (g.T.Shelf.told c.args.tunnels.now) (g.T.Shelf.told c.remove.new.self) c.in-Some.ensures, c.give.ensures), removed_some c.args.id.now _ (g.T.Shelf.told c.args.tunnels.now) (g.T.Shelf.told c.remove.new.self) c.in-Some.ensures)

pub returns-in-None : goal.returns-in-None
returns-in-None g c = (false, refl, removed_none c.args.id.now (g.T.Shelf.told c.args.tunnels.now) (g.T.Shelf.told c.remove.new.self) _ _ c.requires c.in-None.ensures)
