use Rattle.std.proofs.Common.{rules, refl, ap, sym, subst}
use Rattle.gate_model.specs.declared.event.Event.TheVariants.{Join}
use Rattle.desk_core.specs.Desk.{Stands}
use Rattle.turn_lock.specs.Passes.{view_of}
use Rattle.turn_lock.specs.Turns.{view_in}
use Rattle.shared_desk.specs.declared.held.Held.{Held}
use Rattle.shared_desk.specs.Members.{PassState}
use Rattle.shared_desk.proofs.Acting.{asked_turn}
use Rattle.shared_desk.proofs.member.Member.refuse.Goals as goal

pub end_turn-requires-clause-ends : goal.end_turn-requires-clause-ends
end_turn-requires-clause-ends g c = record { added = λ none. absurd (cc); same = λ same. subst (λ (w : Held). Stands w.desk (view_in c.turn-turn.result).seen) (sym c.value.ensures.value) c.turn-turn.ensures.stands.0 }

pub returns-clause-called : goal.returns-clause-called
returns-clause-called g c = λ text.
    asked_turn (view_in c.turn-turn.result) _ c.value.result.now (Join c.args.asked) _ text c.value.ensures.value c.turn-turn.ensures.stands.0 (λ h stood. c.refuse-refusal.ensures h text stood)
    c.args.self.now.view (view_of c.self.inside.pass) _ c.turn-turn.ensures.view.0 (ap (λ (s : PassState). s.view) c.self.view_is) c.turn-turn.ensures.seen c.turn-turn.ensures.known c.self.invariant.0.ticket c.self.invariant.0.inside c.self.invariant.1.places.places c.turn-turn.ensures.places.owns c.turn-turn.ensures.view.1
    (c.end_turn.ensures.same refl) c.end_turn.ensures.pass.places c.end_turn.ensures.pass.sound

pub invariant_of-self : goal.invariant_of-self
invariant_of-self g c = (search rules, c.end_turn.ensures.pass)
