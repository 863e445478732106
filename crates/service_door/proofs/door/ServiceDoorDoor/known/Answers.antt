use Rattle.std.proofs.Common.{refl}
use Rattle.service_door.proofs.Lending.{find_same, find_unlent, found}
use Rattle.service_door.proofs.door.ServiceDoorDoor.known.Goals as goal

pub invariant_of-self : goal.invariant_of-self
invariant_of-self g c = record { unlent = find_unlent _ _ _ _ c.args.self.now.unlent c.has.ensures }

pub returns-in-Some-clause-known : goal.returns-in-Some-clause-known
returns-in-Some-clause-known g c = found _ _ _ _ _ c.in-Some.ensures c.has.ensures

pub returns-in-Some-clause-looks : goal.returns-in-Some-clause-looks
returns-in-Some-clause-looks g c = record { sessions = find_same _ _ _ _ c.has.ensures; out = refl; asked = refl; helper = refl }
