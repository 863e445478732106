use Rattle.std.proofs.Common.{false, refl, sym, ◌∙◌}
use Rattle.http_tunnel.proofs.Places.{given_as, of_put}
use Rattle.http_tunnel.proofs.TunnelReads.{ended_gone, ended_there, put_there}
use Rattle.http_tunnel.proofs.read.end_lent.Goals as goal

pub remove_read-requires : goal.remove_read-requires
remove_read-requires g c = (c.type_bounds.static-D-Pump, (c.type_bounds.static-D-Sending, (c.type_bounds.static-D-Recording, (c.type_bounds.send-D-Pump, (c.type_bounds.send-D-Sending, (c.type_bounds.send-D-Recording, put_there c.args.id.now _ (g.T.Shelf.told c.args.tunnels.now) (g.T.Shelf.told c.back.new.self) c.back.ensures))))))

pub returns-then-goes : goal.returns-then-goes
returns-then-goes g c =
    let r = c.remove_read.ensures in
    (r.0, given_as g.D.Door.id_of _ _ r.0 _ _ (λ name of. of_put c.args.id.now _ (g.T.Shelf.told c.args.tunnels.now) (g.T.Shelf.told c.back.new.self) name c.back.ensures of) r.1, ended_gone c.args.id.now _ _ _ r.0 (g.T.Shelf.told c.args.tunnels.now) (g.T.Shelf.told c.back.new.self) (g.T.Shelf.told c.remove_read.new.tunnels) (sym c.goes.ensures ∙ c.if-goes.true) c.back.ensures r.2)

pub returns-else-goes : goal.returns-else-goes
returns-else-goes g c = (false, refl, ended_there c.args.id.now c.args.tunnel c.args.reader c.args.left (g.T.Shelf.told c.args.tunnels.now) (g.T.Shelf.told c.back-else-goes.new.self) (sym c.goes.ensures ∙ c.if-goes.false) c.back-else-goes.ensures)
