use Rattle.std.proofs.Common.{◌∙◌, Bool, ap, refl, rules, subst}
use Rattle.gate_outside.specs.Helpers.{HelperView}
use Rattle.guac_handshake.specs.Names.{id_of_name}
use Rattle.guac_handshake.specs.declared.welcome.Welcome.{Welcome}
use Rattle.shared_desk.specs.declared.place.Place.{Place}
use Rattle.service_door.specs.Begun.{IsBegun}
use Rattle.service_door.proofs.Adding.{added, added_taken, added_told, any_unlent, begun, conflict_told, has_conflict, out_of_memory, take_unlent, unchanged, untouched}
use Rattle.service_door.proofs.door.ServiceDoorDoor.open.Goals as goal

pub returns-in_default-with_capacity-clause-begins : goal.returns-in_default-with_capacity-clause-begins
returns-in_default-with_capacity-clause-begins g c = record { sessions = untouched (g.T.Shelf.told c.args.self.now.sessions.now); conflict = out_of_memory _ (g.T.Shelf.told c.args.self.now.sessions.now) _; out = refl; asked = refl; helper = search rules }

pub invariant_of-self-in-Err-add : goal.invariant_of-self-in-Err-add
invariant_of-self-in-Err-add g c = record { unlent = any_unlent (g.T.Shelf.told c.args.self.now.sessions.now) (g.T.Shelf.told c.add.new.self) c.add.result _ c.args.self.now.unlent c.add.ensures.added c.add.ensures.same }

pub returns-in-Err-Conflict-clause-begins : goal.returns-in-Err-Conflict-clause-begins
returns-in-Err-Conflict-clause-begins g c = record {
  sessions = unchanged (g.T.Shelf.told c.args.self.now.sessions.now) (g.T.Shelf.told c.add.new.self) c.in-Err-Conflict.ensures.same;
  conflict = (
    λ _. has_conflict _ _ _ c.in-Err-Conflict.field-0-is (g.T.Shelf.told c.args.self.now.sessions.now) c.in-Err-Conflict.ensures.conflict,
    conflict_told _ _ _ c.in-Err-Conflict.field-0-is _ (g.T.Shelf.told c.args.self.now.sessions.now) _ (g.H.Counted.helper c.args.self.now.helper.now).draws (ap (λ (h : HelperView). h.draws) (c.another.ensures.helper ∙ c.now-now.ensures.helper) ∙ search rules) c.in-Err-Conflict.ensures.conflict c.in-Err-Conflict.ensures.drawn,
  );
  out = refl;
  asked = refl;
  helper = search rules;
}

pub returns-in-Err-NoMemory-add-clause-begins : goal.returns-in-Err-NoMemory-add-clause-begins
returns-in-Err-NoMemory-add-clause-begins g c = record { sessions = unchanged (g.T.Shelf.told c.args.self.now.sessions.now) (g.T.Shelf.told c.add.new.self) c.in-Err-NoMemory-add.ensures.same; conflict = out_of_memory _ (g.T.Shelf.told c.args.self.now.sessions.now) _; out = refl; asked = refl; helper = search rules }

pub invariant_of-self-in-Ok-name_in : goal.invariant_of-self-in-Ok-name_in
invariant_of-self-in-Ok-name_in g c = record { unlent = any_unlent (g.T.Shelf.told c.args.self.now.sessions.now) (g.T.Shelf.told c.add.new.self) c.add.result _ c.args.self.now.unlent c.add.ensures.added c.add.ensures.same }

pub invariant_of-self-in_default-name_in : goal.invariant_of-self-in_default-name_in
invariant_of-self-in_default-name_in g c = record { unlent = take_unlent (g.T.Shelf.told c.add.new.self) (g.T.Shelf.told c.remove.new.self) c.in-Ok-add.key c.remove.result (any_unlent (g.T.Shelf.told c.args.self.now.sessions.now) (g.T.Shelf.told c.add.new.self) c.add.result _ c.args.self.now.unlent c.add.ensures.added c.add.ensures.same) c.remove.ensures }

pub returns-in_default-name_in-clause-begins : goal.returns-in_default-name_in-clause-begins
returns-in_default-name_in-clause-begins g c = record { sessions = added_taken (g.T.Shelf.told c.args.self.now.sessions.now) (g.T.Shelf.told c.add.new.self) (g.T.Shelf.told c.remove.new.self) c.in-Ok-add.key _ c.remove.result c.in-Ok-add.ensures.added c.remove.ensures; conflict = search rules; out = refl; asked = refl; helper = search rules }

pub returns-clause-begins : goal.returns-clause-begins
returns-clause-begins g c = record {
  sessions = added (g.T.Shelf.told c.args.self.now.sessions.now) (g.T.Shelf.told c.add.new.self) (id_of_name c.in-Ok-name_in.id) c.in-Ok-add.key _ c.in-Ok-name_in.ensures c.in-Ok-add.ensures.added;
  conflict = (λ e. cc, added_told (g.T.Shelf.told c.args.self.now.sessions.now) _ (g.H.Counted.helper c.args.self.now.helper.now).draws c.in-Ok-add.key _ (ap (λ (h : HelperView). h.draws) (c.another.ensures.helper ∙ c.now-now.ensures.helper) ∙ search rules) c.in-Ok-add.ensures.first);
  out = refl;
  asked = refl;
  helper = search rules;
}

pub returns-clause-begun : goal.returns-clause-begun
returns-clause-begun g c =
    let welcome : Welcome Place = record { id = c.in-Ok-name_in.id; place = c.in-Ok-make.made.place; first = c.in-Ok-make.made.first } in
    subst (λ (b : Bool). IsBegun b c.args.self.now.faces (g.T.Shelf.told c.add.new.self) c.args.ask.now welcome) c.is_some.ensures
    (begun c.is_some.result c.args.self.now.faces (g.T.Shelf.told c.args.self.now.sessions.now) (g.T.Shelf.told c.add.new.self) c.args.ask.now welcome c.in-Ok-add.key _ c.in-Ok-name_in.ensures c.in-Ok-make.ensures.places c.in-Ok-make.ensures.started c.in-Ok-add.ensures.added)
