use Rattle.std.proofs.Common.{[], refl}
use Rattle.guac_handshake.specs.declared.welcome.Welcome.{Welcome}
use Rattle.shared_desk.specs.declared.place.Place.{Place}
use Rattle.service_door.proofs.Joined.{joined_last, joined_later, meets_joined, meets_refusal, refusal_there, refused_later}
use Rattle.service_door.proofs.door.welcome.Goals as goal

pub returns-in_default-clause-there : goal.returns-in_default-clause-there
returns-in_default-clause-there g c = refusal_there (Welcome Place) c.refuse.result _ c.refused_of.ensures

pub returns-in_default-clause-history : goal.returns-in_default-clause-history
returns-in_default-clause-history g c = meets_refusal (Welcome Place) _ _ _ c.refuse.result _ [] [] c.refused_of.ensures (c.refuse.ensures.step [])

pub returns-in_default-clause-leaves : goal.returns-in_default-clause-leaves
returns-in_default-clause-leaves g c = (
  record { session = c.refuse.ensures.session; seen = refused_later _ _ _ c.refuse.result [] [] (c.refuse.ensures.step []) },
  c.refuse.ensures.unchanged,
)

pub returns-in-Ok-join-clause-history : goal.returns-in-Ok-join-clause-history
returns-in-Ok-join-clause-history g c = meets_joined {A = Welcome Place} _ _ _ _ _ _ (record { id = c.in-Ok.id; place = c.in-Ok-join.place; first = c.of.result }) c.in-Ok-join.ensures.step

pub returns-in-Ok-join-clause-leaves : goal.returns-in-Ok-join-clause-leaves
returns-in-Ok-join-clause-leaves g c = (
  record { session = c.join.ensures.session; seen = joined_later _ _ _ _ _ _ c.in-Ok-join.ensures.step },
  joined_last _ _ _ _ c.args.session.now.host c.join.new.self.host _ _ c.in-Ok-join.ensures.step refl c.join.ensures.session c.in-Ok-join.ensures.place,
  c.in-Ok-join.ensures.out,
)

pub returns-in-Err-clause-there : goal.returns-in-Err-clause-there
returns-in-Err-clause-there g c = refusal_there (Welcome Place) c.in-Err.refusal _ c.refused_of-in-Err.ensures

pub returns-in-Err-clause-history : goal.returns-in-Err-clause-history
returns-in-Err-clause-history g c = meets_refusal (Welcome Place) _ _ _ c.in-Err.refusal _ _ _ c.refused_of-in-Err.ensures c.in-Err.ensures.step

pub returns-in-Err-clause-leaves : goal.returns-in-Err-clause-leaves
returns-in-Err-clause-leaves g c = (
  record { session = c.join.ensures.session; seen = refused_later _ _ _ c.in-Err.refusal _ _ c.in-Err.ensures.step },
  c.in-Err.ensures.out,
)
