use Rattle.std.proofs.Common.{rules, [], refl, ap, ◌∙◌, inr}
use Rattle.gate_model.specs.declared.entry.Entry.{Entry}
use Rattle.gate_model.specs.declared.event.Event.TheVariants.{Write}
use Rattle.desk_core.specs.Calls.{write_answer}
use Rattle.turn_lock.specs.Passes.{view_of}
use Rattle.turn_lock.specs.Turns.{view_in}
use Rattle.turn_lock.specs.declared.view.View.{View}
use Rattle.shared_desk.specs.Members.{PassState}
use Rattle.shared_desk.proofs.Acting.{ends, turns}
use Rattle.shared_desk.proofs.member.Member.write.Goals as goal

pub end_turn-requires-clause-ends : goal.end_turn-requires-clause-ends
end_turn-requires-clause-ends g c = ends (view_in c.turn-turn.result) _ c.value.result.now (Write c.args.viewer c.args.acts.now) (write_answer c.write-result.result) [] [] [] c.write-result.new.self c.entries-entries.result c.entries.result c.value.ensures.value c.turn-turn.ensures.stands.0 c.write-result.ensures.step c.entries-entries.ensures.counts c.entries.ensures.counts (λ k. refl) (inr (ap (λ (v : View Entry). v.mark) c.turn-turn.ensures.view.1 ∙ (ap (λ (s : PassState). s.view.mark) c.self.view_is ∙ c.requires.mark)))

pub returns-clause-called : goal.returns-clause-called
returns-clause-called g c =
    turns (view_in c.turn-turn.result) _ c.value.result.now (Write c.args.viewer c.args.acts.now) (write_answer c.write-result.result) [] [] [] c.write-result.new.self c.entries-entries.result c.entries.result c.value.ensures.value c.turn-turn.ensures.stands.0 c.write-result.ensures.step c.entries-entries.ensures.counts c.entries.ensures.counts (λ k. refl)
    c.args.self.now.view (view_of c.self.inside.pass) _ c.turn-turn.ensures.view.0 (ap (λ (s : PassState). s.view) c.self.view_is) c.turn-turn.ensures.seen c.turn-turn.ensures.known c.self.invariant.0.ticket c.self.invariant.0.inside c.self.invariant.1.places.places c.turn-turn.ensures.places.owns c.turn-turn.ensures.view.1
    (record { added = c.end_turn.ensures.added; same = c.end_turn.ensures.same; places = c.end_turn.ensures.pass.places; sound = c.end_turn.ensures.pass.sound })

pub invariant_of-self : goal.invariant_of-self
invariant_of-self g c = (search rules, c.end_turn.ensures.pass)
