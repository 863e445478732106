use Rattle.std.proofs.Common.{◌∙◌, sym}
use Rattle.share_links.specs.Links.{links_of}
use Rattle.share_links.proofs.Passing.{known_link, known_nowhere, known_unusable, link_at, looks_on}
use Rattle.share_links.proofs.door.LinkDoorDoor.known.Goals as goal

pub returns-then-is_usable-clause-known : goal.returns-then-is_usable-clause-known
returns-then-is_usable-clause-known g c =
    let links = links_of c.args.self.now.links.now in
    known_link links c.args.name.now g.D.Door.id_of c.known.result c.if-known.false _ _ (links c.in-Some.link) c.in-Some-find.spent c.known-then-is_usable.result
    (link_at links c.args.name.now _ c.in-Some.link c.id_named.ensures c.in-Some.is) c.in-Some-find.ensures (sym c.is_usable.ensures ∙ c.if-is_usable.true) c.known.ensures.known c.known.ensures.looks.sessions c.known-then-is_usable.ensures.known

pub returns-then-is_usable-clause-looks : goal.returns-then-is_usable-clause-looks
returns-then-is_usable-clause-looks g c = looks_on _ _ _ c.known.ensures.looks c.known-then-is_usable.ensures.looks

pub returns-else-is_usable-clause-known : goal.returns-else-is_usable-clause-known
returns-else-is_usable-clause-known g c =
    let links = links_of c.args.self.now.links.now in
    known_unusable links c.args.name.now g.D.Door.id_of c.known.result c.if-known.false _ (links c.in-Some.link) c.is_usable.result
    (link_at links c.args.name.now _ c.in-Some.link c.id_named.ensures c.in-Some.is) (sym c.is_usable.ensures ∙ c.if-is_usable.false) c.if-is_usable.false c.known.ensures.known

pub returns-in-None-clause-known : goal.returns-in-None-clause-known
returns-in-None-clause-known g c =
    let links = links_of c.args.self.now.links.now in
    known_nowhere links c.args.name.now g.D.Door.id_of c.known.result c.if-known.false _ (links c.in-Some.link)
    (link_at links c.args.name.now _ c.in-Some.link c.id_named.ensures c.in-Some.is) c.in-None.ensures c.known.ensures.known
