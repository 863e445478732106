use Rattle.std.proofs.Common.{subst, sym}
use Rattle.gate_model.specs.declared.entry.Entry.{Entry}
use Rattle.turn_lock.specs.declared.view.View.{View}
use Rattle.turn_lock.specs.Views.{HasPlaces}
use Rattle.turn_lock.specs.Passes.{view_of}
use Rattle.shared_desk.specs.Marks.{mark_of}
use Rattle.shared_desk.specs.Meetings.{HaveMet}
use Rattle.shared_desk.specs.Members.{PassState}
use Rattle.shared_desk.proofs.Meetings.{have_met}
use Rattle.shared_desk.proofs.member.Member.meet.Goals as goal

pub returns-clause-met : goal.returns-clause-met
returns-clause-met c =
    subst (λ (s : PassState). HaveMet s.view c.args.other.now.view (view_of c.join-2.new.into) (view_of c.split-theirs.new.pass)) c.self.view_is
    (subst (λ (s : PassState). HaveMet (view_of c.self.inside.pass) s.view (view_of c.join-2.new.into) (view_of c.split-theirs.new.pass)) c.other.view_is
    (have_met (view_of c.self.inside.pass) (view_of c.other.inside.pass) c.self.invariant.1 c.other.invariant.1 _ _ _ _ _ _
    c.split-own.ensures.giver c.split-own.ensures.part c.join.ensures.view c.join.ensures.begins
    c.split-theirs.ensures.giver c.split-theirs.ensures.part c.join-2.ensures.view c.join-2.ensures.begins
    c.join-2.ensures.places
    (subst (λ (x : View Entry). HasPlaces mark_of x) (sym c.split-theirs.ensures.giver) c.join.ensures.places)))
