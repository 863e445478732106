use Rattle.std.proofs.Common.{refl, sym}
use Rattle.guac_handshake.specs.Names.{id_of_name}
use Rattle.service_door.specs.Doors.{IsCounted}
use Rattle.service_door.proofs.Tables.{not_lent}
use Rattle.service_door.proofs.Lending.{miss_both, miss_keeps, miss_unlent, misses, swap_both, swap_keeps, swap_unlent, swaps}
use Rattle.service_door.proofs.door.ServiceDoorDoor.give.Goals as goal

pub lend-requires : goal.lend-requires
lend-requires g c = not_lent (g.T.Shelf.told c.args.self.now.sessions.now) c.in-Some.key c.args.self.now.unlent

pub invariant_of-self : goal.invariant_of-self
invariant_of-self g c = record { unlent = swap_unlent (g.T.Shelf.told c.args.self.now.sessions.now) (g.T.Shelf.told c.back.new.self) c.in-Some.key c.in-Some-lend.session c.count_back.new.self c.args.self.now.unlent (swaps (g.T.Shelf.told c.args.self.now.sessions.now) (g.T.Shelf.told c.lend.new.self) (g.T.Shelf.told c.back.new.self) c.in-Some.key c.in-Some-lend.session c.count_back.new.self c.in-Some-lend.ensures c.back.ensures) }

pub invariant_of-self-in_default-lend : goal.invariant_of-self-in_default-lend
invariant_of-self-in_default-lend g c = record { unlent = miss_unlent (g.T.Shelf.told c.args.self.now.sessions.now) (g.T.Shelf.told c.lend.new.self) c.in-Some.key c.args.self.now.unlent (misses (g.T.Shelf.told c.args.self.now.sessions.now) (g.T.Shelf.told c.lend.new.self) c.in-Some.key c.in_default-lend.ensures) }

pub returns-in-Some-lend-clause-gives : goal.returns-in-Some-lend-clause-gives
returns-in-Some-lend-clause-gives g c = record { ids = swap_keeps (g.T.Shelf.told c.args.self.now.sessions.now) (g.T.Shelf.told c.back.new.self) (id_of_name c.args.id.now) c.in-Some.key c.in-Some-lend.session c.count_back.new.self (sym c.in-Some.ensures) (swaps (g.T.Shelf.told c.args.self.now.sessions.now) (g.T.Shelf.told c.lend.new.self) (g.T.Shelf.told c.back.new.self) c.in-Some.key c.in-Some-lend.session c.count_back.new.self c.in-Some-lend.ensures c.back.ensures); out = refl; asked = refl; helper = refl }

pub returns-in-Some-lend-clause-given : goal.returns-in-Some-lend-clause-given
returns-in-Some-lend-clause-given g c = swap_both (g.T.Shelf.told c.args.self.now.sessions.now) (g.T.Shelf.told c.back.new.self) (id_of_name c.args.id.now) c.in-Some.key c.in-Some-lend.session c.count_back.new.self IsCounted (sym c.in-Some.ensures) (swaps (g.T.Shelf.told c.args.self.now.sessions.now) (g.T.Shelf.told c.lend.new.self) (g.T.Shelf.told c.back.new.self) c.in-Some.key c.in-Some-lend.session c.count_back.new.self c.in-Some-lend.ensures c.back.ensures) c.count_back.ensures

pub returns-in_default-lend-clause-gives : goal.returns-in_default-lend-clause-gives
returns-in_default-lend-clause-gives g c = record { ids = miss_keeps (g.T.Shelf.told c.args.self.now.sessions.now) (g.T.Shelf.told c.lend.new.self) (id_of_name c.args.id.now) c.in-Some.key (misses (g.T.Shelf.told c.args.self.now.sessions.now) (g.T.Shelf.told c.lend.new.self) c.in-Some.key c.in_default-lend.ensures); out = refl; asked = refl; helper = refl }

pub returns-in_default-lend-clause-given : goal.returns-in_default-lend-clause-given
returns-in_default-lend-clause-given g c = miss_both (g.T.Shelf.told c.args.self.now.sessions.now) (g.T.Shelf.told c.lend.new.self) (id_of_name c.args.id.now) c.in-Some.key IsCounted (sym c.in-Some.ensures) (misses (g.T.Shelf.told c.args.self.now.sessions.now) (g.T.Shelf.told c.lend.new.self) c.in-Some.key c.in_default-lend.ensures)
