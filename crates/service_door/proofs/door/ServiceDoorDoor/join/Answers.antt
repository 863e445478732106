use Rattle.std.proofs.Common.{refl, sym}
use Rattle.std.specs.Prelude.{Err}
use Rattle.guac_handshake.specs.Names.{id_of_name}
use Rattle.guac_handshake.specs.declared.refused.Refused.TheVariants.{Absent}
use Rattle.guac_handshake.specs.declared.request.Request.TheVariants.{Join as join_request}
use Rattle.guac_handshake.specs.declared.welcome.Welcome.{Welcome}
use Rattle.shared_desk.specs.declared.place.Place.{Place}
use Rattle.service_door.specs.Doors.{JoinLeaves}
use Rattle.service_door.proofs.Tables.{not_lent}
use Rattle.service_door.proofs.Lending.{lent, let_in, miss_both, miss_history, miss_keeps, miss_there, miss_unlent, misses, swap_both, swap_history, swap_joined, swap_keeps, swap_there, swap_unlent, swaps, same_name, untold_asked, untold_out}
use Rattle.service_door.proofs.door.ServiceDoorDoor.join.Goals as goal

pub lend-requires : goal.lend-requires
lend-requires g c = not_lent (g.T.Shelf.told c.args.self.now.sessions.now) c.in-Some.key c.args.self.now.unlent

pub invariant_of-self : goal.invariant_of-self
invariant_of-self g c = record { unlent = miss_unlent (g.T.Shelf.told c.args.self.now.sessions.now) (g.T.Shelf.told c.lend.new.self) c.in-Some.key c.args.self.now.unlent (misses (g.T.Shelf.told c.args.self.now.sessions.now) (g.T.Shelf.told c.lend.new.self) c.in-Some.key c.in_default-lend.ensures) }

pub returns-in_default-lend-clause-joins : goal.returns-in_default-lend-clause-joins
returns-in_default-lend-clause-joins g c = record {
  absent = miss_there {A = Welcome Place} (g.T.Shelf.told c.args.self.now.sessions.now) (g.T.Shelf.told c.lend.new.self) (id_of_name c.args.name.now) c.in-Some.key (Err Absent) (sym c.in-Some.ensures) (misses (g.T.Shelf.told c.args.self.now.sessions.now) (g.T.Shelf.told c.lend.new.self) c.in-Some.key c.in_default-lend.ensures) refl;
  ids = miss_keeps (g.T.Shelf.told c.args.self.now.sessions.now) (g.T.Shelf.told c.lend.new.self) (id_of_name c.args.name.now) c.in-Some.key (misses (g.T.Shelf.told c.args.self.now.sessions.now) (g.T.Shelf.told c.lend.new.self) c.in-Some.key c.in_default-lend.ensures);
  history = miss_history {A = Welcome Place} (g.T.Shelf.told c.args.self.now.sessions.now) (g.T.Shelf.told c.lend.new.self) (id_of_name c.args.name.now) c.in-Some.key c.args.role (Err Absent) (sym c.in-Some.ensures) (misses (g.T.Shelf.told c.args.self.now.sessions.now) (g.T.Shelf.told c.lend.new.self) c.in-Some.key c.in_default-lend.ensures);
  out = refl;
  asked = refl;
  helper = refl;
}

pub returns-in_default-lend-clause-joined : goal.returns-in_default-lend-clause-joined
returns-in_default-lend-clause-joined g c = miss_both (g.T.Shelf.told c.args.self.now.sessions.now) (g.T.Shelf.told c.lend.new.self) (id_of_name c.args.name.now) c.in-Some.key (JoinLeaves c.args.role (Err Absent)) (sym c.in-Some.ensures) (misses (g.T.Shelf.told c.args.self.now.sessions.now) (g.T.Shelf.told c.lend.new.self) c.in-Some.key c.in_default-lend.ensures)

pub back-requires : goal.back-requires
back-requires g c = lent (g.T.Shelf.told c.args.self.now.sessions.now) (g.T.Shelf.told c.lend.new.self) c.in-Some.key c.in-Some-lend.session c.in-Some-lend.ensures

pub invariant_of-self-2 : goal.invariant_of-self-2
invariant_of-self-2 g c = record { unlent = swap_unlent (g.T.Shelf.told c.args.self.now.sessions.now) (g.T.Shelf.told c.back.new.self) c.in-Some.key c.in-Some-lend.session c.welcome-joined.new.session c.args.self.now.unlent (swaps (g.T.Shelf.told c.args.self.now.sessions.now) (g.T.Shelf.told c.lend.new.self) (g.T.Shelf.told c.back.new.self) c.in-Some.key c.in-Some-lend.session c.welcome-joined.new.session c.in-Some-lend.ensures c.back.ensures) }

pub returns-clause-joins : goal.returns-clause-joins
returns-clause-joins g c = record {
  absent = swap_there (g.T.Shelf.told c.args.self.now.sessions.now) (g.T.Shelf.told c.back.new.self) (id_of_name c.args.name.now) c.in-Some.key c.in-Some-lend.session c.welcome-joined.new.session c.welcome-joined.result (sym c.in-Some.ensures) (swaps (g.T.Shelf.told c.args.self.now.sessions.now) (g.T.Shelf.told c.lend.new.self) (g.T.Shelf.told c.back.new.self) c.in-Some.key c.in-Some-lend.session c.welcome-joined.new.session c.in-Some-lend.ensures c.back.ensures) c.welcome-joined.ensures.there;
  ids = swap_keeps (g.T.Shelf.told c.args.self.now.sessions.now) (g.T.Shelf.told c.back.new.self) (id_of_name c.args.name.now) c.in-Some.key c.in-Some-lend.session c.welcome-joined.new.session (sym c.in-Some.ensures) (swaps (g.T.Shelf.told c.args.self.now.sessions.now) (g.T.Shelf.told c.lend.new.self) (g.T.Shelf.told c.back.new.self) c.in-Some.key c.in-Some-lend.session c.welcome-joined.new.session c.in-Some-lend.ensures c.back.ensures);
  history = swap_history (g.T.Shelf.told c.args.self.now.sessions.now) (g.T.Shelf.told c.back.new.self) (id_of_name c.args.name.now) c.in-Some.key c.in-Some-lend.session c.welcome-joined.new.session c.args.role c.welcome-joined.result (sym c.in-Some.ensures) (swaps (g.T.Shelf.told c.args.self.now.sessions.now) (g.T.Shelf.told c.lend.new.self) (g.T.Shelf.told c.back.new.self) c.in-Some.key c.in-Some-lend.session c.welcome-joined.new.session c.in-Some-lend.ensures c.back.ensures) c.welcome-joined.ensures.history;
  out = untold_out c.welcome-joined.result;
  asked = untold_asked (join_request c.args.name.now c.args.role) c.welcome-joined.result;
  helper = refl;
}

pub returns-clause-joined : goal.returns-clause-joined
returns-clause-joined g c = swap_both (g.T.Shelf.told c.args.self.now.sessions.now) (g.T.Shelf.told c.back.new.self) (id_of_name c.args.name.now) c.in-Some.key c.in-Some-lend.session c.welcome-joined.new.session (JoinLeaves c.args.role c.welcome-joined.result) (sym c.in-Some.ensures) (swaps (g.T.Shelf.told c.args.self.now.sessions.now) (g.T.Shelf.told c.lend.new.self) (g.T.Shelf.told c.back.new.self) c.in-Some.key c.in-Some-lend.session c.welcome-joined.new.session c.in-Some-lend.ensures c.back.ensures) c.welcome-joined.ensures.leaves

pub returns-clause-welcome : goal.returns-clause-welcome
returns-clause-welcome g c = let_in _ _ _ c.welcome-joined.result c.welcome-joined.ensures.fresh (same_name _ c.in-Some.key c.welcome-joined.result c.in-Some.ensures c.welcome-joined.ensures.id) (swap_joined (g.T.Shelf.told c.args.self.now.sessions.now) (g.T.Shelf.told c.back.new.self) c.in-Some.key c.in-Some-lend.session c.welcome-joined.new.session c.args.role c.welcome-joined.result (swaps (g.T.Shelf.told c.args.self.now.sessions.now) (g.T.Shelf.told c.lend.new.self) (g.T.Shelf.told c.back.new.self) c.in-Some.key c.in-Some-lend.session c.welcome-joined.new.session c.in-Some-lend.ensures c.back.ensures) c.welcome-joined.ensures.id c.welcome-joined.ensures.leaves)
