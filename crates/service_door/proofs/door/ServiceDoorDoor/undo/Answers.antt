use Rattle.std.proofs.Common.{◌∙◌, ap, refl, sym}
use Rattle.guac_handshake.specs.Names.{id_of_name}
use Rattle.service_door.proofs.Tables.{not_lent}
use Rattle.service_door.proofs.Adding.{gone, take_unlent}
use Rattle.service_door.proofs.Stopping.{stops_none, stops_taken, stops_unnamed}
use Rattle.service_door.proofs.door.ServiceDoorDoor.undo.Goals as goal

pub remove-requires : goal.remove-requires
remove-requires g c = not_lent (g.T.Shelf.told c.args.self.now.sessions.now) c.in-Some.key c.args.self.now.unlent

pub invariant_of-self : goal.invariant_of-self
invariant_of-self g c = record { unlent = take_unlent (g.T.Shelf.told c.args.self.now.sessions.now) (g.T.Shelf.told c.remove.new.self) c.in-Some.key c.remove.result c.args.self.now.unlent c.remove.ensures }

pub returns-in-Some-remove-clause-undoes : goal.returns-in-Some-remove-clause-undoes
returns-in-Some-remove-clause-undoes g c = record { sessions = gone (g.T.Shelf.told c.args.self.now.sessions.now) (g.T.Shelf.told c.remove.new.self) (id_of_name c.args.id.now) c.in-Some.key c.remove.result (sym (c.in-Some.ensures ∙ ap id_of_name c.as_str.ensures)) c.remove.ensures; out = refl; asked = refl; helper = refl }

pub returns-in_default-remove-clause-undoes : goal.returns-in_default-remove-clause-undoes
returns-in_default-remove-clause-undoes g c = record { sessions = gone (g.T.Shelf.told c.args.self.now.sessions.now) (g.T.Shelf.told c.remove.new.self) (id_of_name c.args.id.now) c.in-Some.key c.remove.result (sym (c.in-Some.ensures ∙ ap id_of_name c.as_str.ensures)) c.remove.ensures; out = refl; asked = refl; helper = refl }

pub returns-in_default-clause-stopped : goal.returns-in_default-clause-stopped
returns-in_default-clause-stopped g c = stops_unnamed (g.T.Shelf.told c.args.self.now.sessions.now) (id_of_name c.args.id.now) (sym (c.in_default.ensures ∙ ap id_of_name c.as_str.ensures))

pub returns-in_default-remove-clause-stopped : goal.returns-in_default-remove-clause-stopped
returns-in_default-remove-clause-stopped g c = stops_none (g.T.Shelf.told c.args.self.now.sessions.now) (g.T.Shelf.told c.remove.new.self) (id_of_name c.args.id.now) c.in-Some.key (sym (c.in-Some.ensures ∙ ap id_of_name c.as_str.ensures)) c.in_default-remove.ensures

pub returns-in-Some-remove-clause-stopped : goal.returns-in-Some-remove-clause-stopped
returns-in-Some-remove-clause-stopped g c = stops_taken (g.T.Shelf.told c.args.self.now.sessions.now) (g.T.Shelf.told c.remove.new.self) (id_of_name c.args.id.now) c.in-Some.key c.in-Some-remove.session c.stop.new.self (sym (c.in-Some.ensures ∙ ap id_of_name c.as_str.ensures)) c.in-Some-remove.ensures c.stop.ensures
