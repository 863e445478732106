use Rattle.share_links.specs.Links.{links_of}
use Rattle.share_links.proofs.Passing.{given_itself, given_link, given_name, gives_on, link_at, no_link}
use Rattle.share_links.proofs.door.LinkDoorDoor.give.Goals as goal

pub returns-then-known-clause-gives : goal.returns-then-known-clause-gives
returns-then-known-clause-gives g c = record {
  given = c.args.id.now;
  as_given = given_itself (links_of c.args.self.now.links.now) c.args.id.now g.D.Door.id_of c.known.result c.if-known.true _ c.known.ensures.known;
  gives = gives_on _ _ _ c.known.ensures.looks (g.D.Door.id_of c.args.id.now) c.give.ensures.gives;
}

pub returns-in-Some-find-clause-gives : goal.returns-in-Some-find-clause-gives
returns-in-Some-find-clause-gives g c =
    let links = links_of c.args.self.now.links.now in
    let spent = c.in-Some-find.spent in
    record {
      given = spent.id.now;
      as_given = given_link links c.args.id.now g.D.Door.id_of c.known.result c.if-known.false _ (links c.in-Some.link) spent
          (link_at links c.args.id.now _ c.in-Some.link c.id_named.ensures c.in-Some.is) c.in-Some-find.ensures c.known.ensures.known;
      gives = gives_on _ _ _ c.known.ensures.looks (g.D.Door.id_of spent.id.now) c.give-in-Some-find.ensures.gives;
    }

pub returns-in-None-find-clause-gives : goal.returns-in-None-find-clause-gives
returns-in-None-find-clause-gives g c =
    let links = links_of c.args.self.now.links.now in
    record {
      given = c.args.id.now;
      as_given = given_name links c.args.id.now g.D.Door.id_of c.known.result c.if-known.false _ (links c.in-Some.link)
          (link_at links c.args.id.now _ c.in-Some.link c.id_named.ensures c.in-Some.is) c.in-None-find.ensures c.known.ensures.known;
      gives = gives_on _ _ _ c.known.ensures.looks (g.D.Door.id_of c.args.id.now) c.give-in-None-find.ensures.gives;
    }

pub returns-in-None-clause-gives : goal.returns-in-None-clause-gives
returns-in-None-clause-gives g c =
    let links = links_of c.args.self.now.links.now in
    record {
      given = c.args.id.now;
      as_given = given_name links c.args.id.now g.D.Door.id_of c.known.result c.if-known.false _ _
          (no_link links c.args.id.now _ c.id_named.ensures c.in-None.is) tt c.known.ensures.known;
      gives = gives_on _ _ _ c.known.ensures.looks (g.D.Door.id_of c.args.id.now) c.give-in-None.ensures.gives;
    }
