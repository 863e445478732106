use Rattle.std.proofs.Common.{sym, subst}
use Rattle.shared_desk.specs.Hosts.{HasBegun}
use Rattle.service_door.proofs.Owned.{IsOwned, opened, opens, ready}
use Rattle.service_door.proofs.opening.open_session.Goals as goal

pub share-requires-clause-stands : goal.share-requires-clause-stands
share-requires-clause-stands c = (ready c.in_ok-setup.setup c.args.now c.in_ok-desk.desk c.join.new.self c.in-Ok.field-0 _ _ c.new-first.ensures.items c.in_ok-desk.ensures.opened c.in-Ok.ensures.step).stands

pub share-requires-clause-opening : goal.share-requires-clause-opening
share-requires-clause-opening c = opens _ _ _ (ready c.in_ok-setup.setup c.args.now c.in_ok-desk.desk c.join.new.self c.in-Ok.field-0 _ _ c.new-first.ensures.items c.in_ok-desk.ensures.opened c.in-Ok.ensures.step)

pub returns : goal.returns
returns c =
    let begun = ready c.in_ok-setup.setup c.args.now c.in_ok-desk.desk c.join.new.self c.in-Ok.field-0 _ _ c.new-first.ensures.items c.in_ok-desk.ensures.opened c.in-Ok.ensures.step in
    opened c.args.faces c.args.ask.now c.in_ok-setup.setup c.join.new.self.past c.in_ok-host.host c.in-Some.place c.of.result c.in_ok-setup.ensures.asked
    (subst (λ (text : _). IsOwned c.in_ok-setup.setup c.join.new.self.past text) (sym c.of.ensures) begun.owned)
    (subst (λ (owner : _). HasBegun c.join.new.self.past c.in_ok-host.host owner) c.in-Some.is c.in_ok-host.ensures)
