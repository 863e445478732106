use Rattle.std.proofs.Common.{false, refl}
use Rattle.http_tunnel.proofs.Places.{given_as, of_lent}
use Rattle.http_tunnel.proofs.TunnelReads.{ended_lent, removed_none, there_not_lent}
use Rattle.http_tunnel.proofs.Shelves.{is_lent}
use Rattle.http_tunnel.proofs.read.end_read.Goals as goal

pub lend-requires : goal.lend-requires
lend-requires g c = there_not_lent c.args.id.now (g.T.Shelf.told c.args.tunnels.now) c.requires

pub end_lent-requires : goal.end_lent-requires
end_lent-requires g c = (c.type_bounds.static-D-Pump, (c.type_bounds.static-D-Sending, (c.type_bounds.static-D-Recording, (c.type_bounds.send-D-Pump, (c.type_bounds.send-D-Sending, (c.type_bounds.send-D-Recording, is_lent c.args.id.now _ (g.T.Shelf.told c.args.tunnels.now) (g.T.Shelf.told c.lend.new.self) c.in-Some.ensures))))))

pub returns-in-Some : goal.returns-in-Some
returns-in-Some g c = let e = c.end_lent.ensures in (e.0, given_as g.D.Door.id_of _ _ e.0 _ _ (λ name so. of_lent c.args.id.now _ (g.T.Shelf.told c.args.tunnels.now) (g.T.Shelf.told c.lend.new.self) name c.in-Some.ensures so) e.1, ended_lent c.args.id.now _ _ _ e.0 (g.T.Shelf.told c.args.tunnels.now) (g.T.Shelf.told c.lend.new.self) (g.T.Shelf.told c.end_lent.new.tunnels) c.in-Some.ensures e.2)

pub returns-in-None : goal.returns-in-None
returns-in-None g c = (false, refl, removed_none c.args.id.now (g.T.Shelf.told c.args.tunnels.now) (g.T.Shelf.told c.lend.new.self) _ _ c.requires c.in-None.ensures)
