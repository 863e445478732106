use denote.Param.Send.{sendable}
use Rattle.std.proofs.Common.{false, refl}
use Rattle.http_tunnel.proofs.Places.{given_as, of_begun}
use Rattle.http_tunnel.proofs.TunnelReads.{begun_there, read_absent, read_done}
use Rattle.http_tunnel.proofs.Responses.{read_kind}
use Rattle.http_tunnel.proofs.read.read.Goals as goal

pub end_read-requires : goal.end_read-requires
end_read-requires g c = (c.type_bounds.static-D-Pump, (c.type_bounds.static-D-Sending, (c.type_bounds.static-D-Recording, (search (sendable, c.type_bounds.send-D-Pump) depth 20, (search (sendable, c.type_bounds.send-D-Sending) depth 20, (search (sendable, c.type_bounds.send-D-Recording) depth 20, begun_there c.args.id.now _ (g.T.Shelf.told c.args.tunnels.now) (g.T.Shelf.told c.begin_read.new.tunnels) c.in-Some.ensures))))))

pub returns-in-Some-clause-read : goal.returns-in-Some-clause-read
returns-in-Some-clause-read g c =
    let r = c.read_lent-result.ensures in
    let e = c.end_read.ensures in
    (e.0, given_as g.D.Door.id_of _ _ e.0 _ _ (λ name of. of_begun c.args.id.now _ (g.T.Shelf.told c.args.tunnels.now) (g.T.Shelf.told c.begin_read.new.tunnels) name c.in-Some.ensures of) e.1, (read_done c.args.id.now c.in-Some.lent _ _ r.read.0 r.read.1 _ e.0 (g.T.Shelf.told c.args.tunnels.now) (g.T.Shelf.told c.begin_read.new.tunnels) (g.T.Shelf.told c.end_read.new.tunnels) c.requires c.in-Some.ensures e.2 r.stays r.read.2 r.read.3).0)

pub returns-in-Some-clause-home : goal.returns-in-Some-clause-home
returns-in-Some-clause-home g c =
    let r = c.read_lent-result.ensures in
    let e = c.end_read.ensures in
    (read_done c.args.id.now c.in-Some.lent _ _ r.read.0 r.read.1 _ e.0 (g.T.Shelf.told c.args.tunnels.now) (g.T.Shelf.told c.begin_read.new.tunnels) (g.T.Shelf.told c.end_read.new.tunnels) c.requires c.in-Some.ensures e.2 r.stays r.read.2 r.read.3).1

pub returns-in-None-clause-read : goal.returns-in-None-clause-read
returns-in-None-clause-read g c = (false, refl, (read_absent c.args.id.now (g.T.Shelf.told c.args.tunnels.now) (g.T.Shelf.told c.begin_read.new.tunnels) c.requires c.in-None.ensures).0)

pub returns-in-None-clause-home : goal.returns-in-None-clause-home
returns-in-None-clause-home g c = (read_absent c.args.id.now (g.T.Shelf.told c.args.tunnels.now) (g.T.Shelf.told c.begin_read.new.tunnels) c.requires c.in-None.ensures).1

pub returns-in-Some-clause-kind : goal.returns-in-Some-clause-kind
returns-in-Some-clause-kind g c = let r = c.read_lent-result.ensures.read in read_kind _ r.0 r.1 _ r.3.answered
