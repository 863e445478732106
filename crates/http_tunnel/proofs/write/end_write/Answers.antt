use Rattle.std.proofs.Common.{false, refl}
use Rattle.http_tunnel.proofs.Writing.{put_back, put_gone}
use Rattle.http_tunnel.proofs.write.end_write.Goals as goal

pub returns-then-ended : goal.returns-then-ended
returns-then-ended g c = let r = c.remove_written.ensures in (r.0, r.1, put_gone c.args.id.now _ _ r.0 (g.T.Shelf.told c.args.tunnels.now) (g.T.Shelf.told c.remove_written.new.tunnels) c.if-ended.true r.2)

pub returns-else-ended : goal.returns-else-ended
returns-else-ended g c = (false, refl, put_back c.args.id.now _ _ (g.T.Shelf.told c.args.tunnels.now) (g.T.Shelf.told c.back.new.self) c.if-ended.false c.back.ensures)
