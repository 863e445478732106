use Rattle.std.proofs.Common.{refl, ap, sym, ◌∙◌, rules}
use Rattle.gate_model.specs.session.History.{joined}
use Rattle.gate_model.specs.declared.entry.Entry.{Entry}
use Rattle.turn_lock.specs.declared.view.View.{View}
use Rattle.shared_desk.proofs.Openings.{owner_joined, begun_with, opens_pass}
use Rattle.shared_desk.proofs.Turns.{sound_of}
use Rattle.shared_desk.proofs.sharing.share.Goals.{in-Some+in_ok-owners-in-Some, in-None}
use Rattle.shared_desk.proofs.sharing.share.Goals as goal

pub invariant_of-host : goal.invariant_of-host
invariant_of-host g c = (search rules, opens_pass c.desks_are_whole.ensures _ g.L.Lists.list _ c.requires.stands c.in_ok-lock.ensures.view c.in_ok-lock.ensures.places)

pub place-requires-clause-last : goal.place-requires-clause-last
place-requires-clause-last g c = sym (ap (λ (v : View Entry). joined v.seen) c.in_ok-lock.ensures.view ∙ owner_joined g.L.Lists.list c.in-Some.role c.requires.stands.legal (c.in-Some.ensures g.L.Lists.list c.requires.stands c.requires.opening))

pub returns : goal.returns
returns g c = elim c.match-owner.branch [
  | in-Some+in_ok-owners-in-Some w ↦ rw (w.host-is, w.place-is)
      (begun_with g.L.Lists.list _ _ w.in-Some.role _ (sound_of c.desks_are_whole.ensures _ _ c.requires.stands) (w.in-Some.ensures g.L.Lists.list c.requires.stands c.requires.opening) c.in_ok-lock.ensures.view refl refl w.place.ensures.place w.place.ensures.stays.session w.place.ensures.stays.linked w.place.ensures.out w.place.ensures.view)
  | in-None w ↦ rw (w.host-is, w.place-is) (w.in-None.ensures g.L.Lists.list c.requires.stands c.requires.opening, c.in_ok-lock.ensures.view, refl, refl)
]
