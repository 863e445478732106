use Rattle.http_tunnel.proofs.TunnelReads.{begun, begun_none, still_none, still_on}
use Rattle.http_tunnel.proofs.read.begin_read.Goals as goal

pub loop-init : goal.loop-init
loop-init g c = still_none (g.T.Shelf.told c.args.tunnels.now) c.requires

pub loop-preserved : goal.loop-preserved
loop-preserved g c = still_on c.args.id.now (g.T.Shelf.told c.args.tunnels.now) (g.T.Shelf.told c.loop.tunnels) (g.T.Shelf.told c.take_out.new.tunnels) c.loop.invariant c.in-Away.ensures

pub returns-in-Absent : goal.returns-in-Absent
returns-in-Absent g c = begun_none c.args.id.now (g.T.Shelf.told c.args.tunnels.now) (g.T.Shelf.told c.loop.tunnels) (g.T.Shelf.told c.take_out.new.tunnels) c.loop.invariant c.in-Absent.ensures

pub returns-in-Lent : goal.returns-in-Lent
returns-in-Lent g c = begun c.args.id.now _ (g.T.Shelf.told c.args.tunnels.now) (g.T.Shelf.told c.loop.tunnels) (g.T.Shelf.told c.take_out.new.tunnels) c.loop.invariant c.in-Lent.ensures

pub take_out-requires : goal.take_out-requires
take_out-requires g c = c.loop.invariant.home
