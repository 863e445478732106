use denote.Param.Send.{sendable}
use Rattle.std.proofs.Common.{false, refl}
use Rattle.http_tunnel.proofs.Places.{given_as, of_lent}
use Rattle.http_tunnel.proofs.TunnelReads.{home_not_lent}
use Rattle.http_tunnel.proofs.Responses.{write_kind}
use Rattle.http_tunnel.proofs.Shelves.{is_lent}
use Rattle.http_tunnel.proofs.Writing.{lent_home, write_absent, write_done}
use Rattle.http_tunnel.proofs.write.write.Goals as goal

pub lend-requires : goal.lend-requires
lend-requires g c = home_not_lent c.args.id.now (g.T.Shelf.told c.args.tunnels.now) c.requires

pub end_write-requires : goal.end_write-requires
end_write-requires g c = (c.type_bounds.static-D-Pump, (c.type_bounds.static-D-Sending, (c.type_bounds.static-D-Recording, (search (sendable, c.type_bounds.send-D-Pump) depth 20, (search (sendable, c.type_bounds.send-D-Sending) depth 20, (search (sendable, c.type_bounds.send-D-Recording) depth 20, (is_lent c.args.id.now _ (g.T.Shelf.told c.args.tunnels.now) (g.T.Shelf.told c.lend.new.self) c.in-Some.ensures, lent_home c.args.id.now _ (g.T.Shelf.told c.args.tunnels.now) (g.T.Shelf.told c.lend.new.self) c.requires c.in-Some.ensures)))))))

pub returns-in-Some-clause-wrote : goal.returns-in-Some-clause-wrote
returns-in-Some-clause-wrote g c =
    let w = c.write_body-done.ensures in
    let e = c.end_write.ensures in
    (e.0, given_as g.D.Door.id_of _ _ e.0 _ _ (λ name so. of_lent c.args.id.now c.in-Some.lent (g.T.Shelf.told c.args.tunnels.now) (g.T.Shelf.told c.lend.new.self) name c.in-Some.ensures so) e.1, (write_done c.args.id.now c.in-Some.lent _ _ c.write_body-done.result _ e.0 c.without_value.result (g.T.Shelf.told c.args.tunnels.now) (g.T.Shelf.told c.lend.new.self) (g.T.Shelf.told c.end_write.new.tunnels) c.requires c.in-Some.ensures e.2 c.is_ended.ensures w.stays w.wrote c.without_value.ensures).0)

pub returns-in-Some-clause-home : goal.returns-in-Some-clause-home
returns-in-Some-clause-home g c =
    let w = c.write_body-done.ensures in
    let e = c.end_write.ensures in
    (write_done c.args.id.now c.in-Some.lent _ _ c.write_body-done.result _ e.0 c.without_value.result (g.T.Shelf.told c.args.tunnels.now) (g.T.Shelf.told c.lend.new.self) (g.T.Shelf.told c.end_write.new.tunnels) c.requires c.in-Some.ensures e.2 c.is_ended.ensures w.stays w.wrote c.without_value.ensures).1

pub returns-in-None-clause-wrote : goal.returns-in-None-clause-wrote
returns-in-None-clause-wrote g c = (false, refl, (write_absent c.args.id.now c.args.body.now (g.T.Shelf.told c.args.tunnels.now) (g.T.Shelf.told c.lend.new.self) c.requires c.in-None.ensures).0)

pub returns-in-None-clause-home : goal.returns-in-None-clause-home
returns-in-None-clause-home g c = (write_absent c.args.id.now c.args.body.now (g.T.Shelf.told c.args.tunnels.now) (g.T.Shelf.told c.lend.new.self) c.requires c.in-None.ensures).1

pub returns-in-Some-clause-kind : goal.returns-in-Some-clause-kind
returns-in-Some-clause-kind g c = write_kind _ _ _ _ c.write_body-done.result c.without_value.result c.without_value.ensures c.write_body-done.ensures.wrote
