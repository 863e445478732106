use Rattle.std.proofs.Common.{false, refl}
use Rattle.std.specs.Prelude.{is_some}
use Rattle.http_tunnel.proofs.Places.{given_as, of_taken}
use Rattle.http_tunnel.proofs.Shelves.{not_lent}
use Rattle.http_tunnel.proofs.Writing.{removed_away, removed_gone, removed_here}
use Rattle.http_tunnel.proofs.write.remove_written.Goals as goal

pub remove-requires : goal.remove-requires
remove-requires g c = not_lent c.args.id.now _ (g.T.Shelf.told c.args.tunnels.now) (g.T.Shelf.told c.back.new.self) c.back.ensures

pub returns-in-Some : goal.returns-in-Some
returns-in-Some g c = (is_some c.in-Some.tunnel.reader, given_as g.D.Door.id_of _ _ _ _ _ (λ name is. of_taken c.args.id.now c.args.tunnel _ _ (g.T.Shelf.told c.args.tunnels.now) (g.T.Shelf.told c.back.new.self) (g.T.Shelf.told c.remove.new.self) name refl c.back.ensures c.in-Some.ensures is) c.give_back.ensures, removed_here c.args.id.now c.args.tunnel _ _ (g.T.Shelf.told c.args.tunnels.now) (g.T.Shelf.told c.back.new.self) (g.T.Shelf.told c.remove.new.self) refl c.requires.home c.back.ensures c.in-Some.ensures)

pub returns-in-None : goal.returns-in-None
returns-in-None g c = (false, refl, removed_gone c.args.id.now c.args.tunnel _ _ _ (g.T.Shelf.told c.args.tunnels.now) (g.T.Shelf.told c.back.new.self) (g.T.Shelf.told c.remove.new.self) c.back.ensures c.in-None.ensures)

pub returns-else-here : goal.returns-else-here
returns-else-here g c = (false, refl, removed_away c.args.id.now c.args.tunnel _ _ _ (g.T.Shelf.told c.args.tunnels.now) (g.T.Shelf.told c.back.new.self) c.is_some-here.ensures c.if-here.false c.requires.home c.back.ensures)
