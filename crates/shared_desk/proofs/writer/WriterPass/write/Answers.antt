use Rattle.std.proofs.Common.{◌≡◌, ◌++◌, [], ◌∷◌, subst}
use Rattle.std.specs.Prelude.{is_ok, if◌then◌else◌}
use Rattle.gate_model.specs.declared.entry.Entry.TheVariants.{Write as Wrote}
use Rattle.gate_model.specs.declared.event.Event.TheVariants.{Write}
use Rattle.desk_core.specs.Calls.{write_answer}
use Rattle.shared_desk.specs.Called.{Called}
use Rattle.shared_desk.specs.Members.{ViewerState}
use Rattle.shared_desk.specs.Own.{own_entries}
use Rattle.shared_desk.proofs.Alone.{keeps_viewers}
use Rattle.shared_desk.proofs.Derived.{writes}
use Rattle.shared_desk.proofs.writer.WriterPass.write.Goals as goal

pub invariant_of-self : goal.invariant_of-self
invariant_of-self g c = keeps_viewers _ _ _ _ _ c.write.ensures.called c.self.invariant

pub returns-clause-called : goal.returns-clause-called
returns-clause-called g c = subst (λ (s : ViewerState). Called s.view (Write s.viewer c.args.acts.now) (write_answer c.write.result) c.write.new.self.view) c.self.view_is c.write.ensures.called

pub returns-clause-own : goal.returns-clause-own
returns-clause-own g c = subst (λ (s : ViewerState). own_entries c.write.new.self.view ≡ (if is_ok c.write.result then Wrote s.viewer c.args.acts.now ∷ [] else []) ++ own_entries s.view) c.self.view_is (writes _ _ _ c.args.acts.now c.write.result c.write.ensures.called)
