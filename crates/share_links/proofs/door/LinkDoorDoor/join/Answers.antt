use Rattle.std.proofs.Common.{true, Ok, Err, sym, ap, subst, ◌∙◌}
use Rattle.guac_handshake.specs.declared.refused.Refused.{Refused}
use Rattle.guac_handshake.specs.declared.welcome.Welcome.{Welcome}
use Rattle.share_links.specs.Doors.{Answered, ByLink, JoinsThrough, Returned}
use Rattle.share_links.specs.Links.{IsSpent, Spends, links_of}
use Rattle.share_links.specs.declared.table.LinkTable.{LinkTable}
use Rattle.share_links.proofs.Counting.{spent_after}
use Rattle.share_links.proofs.Passing.{has_none, joins_as, joins_on, role_asked, through}
use Rattle.share_links.proofs.door.LinkDoorDoor.join.Goals as goal
use Rattle.share_links.proofs.door.LinkDoorDoor.join.Goals.{in-Ok+in-Err-copied, in-Err}

pub returns-in-Ok-copied-clause-through : goal.returns-in-Ok-copied-clause-through
returns-in-Ok-copied-clause-through g c =
    let P = g.row.D-Place.Denot in
    let before = links_of c.args.self.now.links.now in
    let after = links_of c.take_one.new.self in
    let h : Spends c.in-Some.link true before after = (sym c.is_usable.ensures ∙ c.if-not-is_usable.false, c.take_one.ensures) in
    let told : Welcome P = record { id = c.in-Ok-copied.told; place = c.in-Ok.welcome.place; first = c.in-Ok.welcome.first } in
    let spent = c.in-Some-find.spent in
    let role = c.role_through-role.result in
    ByLink (has_none before c.args.name.now g.D.Door.id_of c.known.result c.if-known.false _ c.known.ensures.known) c.in-Some.link _
    (through P g.D.Door.id_of c.args.name.now c.args.role c.in-Some.link before after spent role
    (sym c.id_named.ensures ∙ c.in-Some.is) h c.in-Some-find.ensures c.role_through-role.ensures after (Ok told) _ _ h
    (Answered (joins_on _ _ _ c.known.ensures.looks (g.D.Door.id_of spent.id.now) spent.id.now role (Ok told) (joins_as P (g.D.Door.id_of spent.id.now) spent.id.now role c.in-Ok.welcome told _ _ c.in-Ok.ensures.joins)) c.in-Ok-copied.ensures.text))

pub returns-in-Ok-copied-clause-welcome : goal.returns-in-Ok-copied-clause-welcome
returns-in-Ok-copied-clause-welcome g c = record {
  fresh = c.in-Ok.ensures.welcome.fresh;
  same_id = ap g.D.Door.id_of c.in-Ok-copied.ensures.text;
  joined = (
    c.role_through-role.result,
    c.in-Ok.welcome.id,
    role_asked c.in-Some-find.spent.control c.args.role c.role_through-role.result c.role_through-role.ensures,
    c.in-Ok.ensures.welcome.joined,
  );
}

pub give_back-requires : goal.give_back-requires
give_back-requires g c =
    let h = spent_after c.in-Some.link (links_of c.args.self.now.links.now) (links_of c.take_one.new.self) (sym c.is_usable.ensures ∙ c.if-not-is_usable.false) c.take_one.ensures in
    elim c.match-join.branch [
      | in-Ok+in-Err-copied w ↦ subst (λ (t : LinkTable). IsSpent c.in-Some.link (links_of t)) (sym (ap (λ d. d.links.now) w.self-is)) h
      | in-Err w ↦ subst (λ (t : LinkTable). IsSpent c.in-Some.link (links_of t)) (sym (ap (λ d. d.links.now) w.self-is)) h
    ]

pub returns-clause-through : goal.returns-clause-through
returns-clause-through g c =
    let P = g.row.D-Place.Denot in
    let id_of = g.D.Door.id_of in
    let view = g.D.Door.view in
    let name = c.args.name.now in
    let before = links_of c.args.self.now.links.now in
    let after = links_of c.give_back.new.self in
    let h : Spends c.in-Some.link true before (links_of c.take_one.new.self) = (sym c.is_usable.ensures ∙ c.if-not-is_usable.false, c.take_one.ensures) in
    let spent = c.in-Some-find.spent in
    let role = c.role_through-role.result in
    let a = view c.args.self.now.inner.now in
    let mid = links_of c.match-join.self.links.now in
    elim c.match-join.branch [
      | in-Ok+in-Err-copied w ↦ subst (λ (r : Refused). JoinsThrough {P = P} id_of name c.args.role before after (Err r) a (view c.match-join.self.inner.now)) (sym w.refused-is)
          (subst (λ (d : g.row.D.Denot). JoinsThrough {P = P} id_of name c.args.role before after (Err w.in-Err-copied.refused) a (view d)) (sym (ap (λ d. d.inner.now) w.self-is))
          (ByLink (has_none before name id_of c.known.result c.if-known.false _ c.known.ensures.known) c.in-Some.link _
          (through P id_of name c.args.role c.in-Some.link before (links_of c.take_one.new.self) spent role
          (sym c.id_named.ensures ∙ c.in-Some.is) h c.in-Some-find.ensures c.role_through-role.ensures after (Err w.in-Err-copied.refused) a (view w.give.new.self)
          (mid, subst (λ (t : LinkTable). Spends c.in-Some.link true before (links_of t)) (sym (ap (λ d. d.links.now) w.self-is)) h, c.give_back.ensures)
          (Returned (ap Err w.in-Err-copied.ensures.kind) (view c.join-2.new.self) w.in-Ok.welcome (joins_on _ _ _ c.known.ensures.looks (id_of spent.id.now) spent.id.now role (Ok w.in-Ok.welcome) w.in-Ok.ensures.joins) w.give.ensures.gives))))
      | in-Err w ↦ subst (λ (r : Refused). JoinsThrough {P = P} id_of name c.args.role before after (Err r) a (view c.match-join.self.inner.now)) (sym w.refused-is)
          (subst (λ (d : g.row.D.Denot). JoinsThrough {P = P} id_of name c.args.role before after (Err w.in-Err.refused) a (view d)) (sym (ap (λ d. d.inner.now) w.self-is))
          (ByLink (has_none before name id_of c.known.result c.if-known.false _ c.known.ensures.known) c.in-Some.link _
          (through P id_of name c.args.role c.in-Some.link before (links_of c.take_one.new.self) spent role
          (sym c.id_named.ensures ∙ c.in-Some.is) h c.in-Some-find.ensures c.role_through-role.ensures after (Err w.in-Err.refused) a (view c.join-2.new.self)
          (mid, subst (λ (t : LinkTable). Spends c.in-Some.link true before (links_of t)) (sym (ap (λ d. d.links.now) w.self-is)) h, c.give_back.ensures)
          (Answered (joins_on _ _ _ c.known.ensures.looks (id_of spent.id.now) spent.id.now role (Err w.in-Err.refused) w.in-Err.ensures.joins) tt))))
    ]
