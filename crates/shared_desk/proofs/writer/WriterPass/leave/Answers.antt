use Rattle.std.proofs.Common.{◌≡◌, ◌++◌, [], ◌∷◌, subst}
use Rattle.std.specs.Prelude.{Ok, is_ok, if◌then◌else◌}
use Rattle.gate_model.specs.declared.answer.Answer.TheVariants.{Leave as left}
use Rattle.gate_model.specs.declared.entry.Entry.TheVariants.{Leave as Left}
use Rattle.gate_model.specs.declared.event.Event.TheVariants.{Leave}
use Rattle.shared_desk.specs.Called.{Called}
use Rattle.shared_desk.specs.Members.{ViewerState}
use Rattle.shared_desk.specs.Own.{own_entries}
use Rattle.shared_desk.proofs.Alone.{keeps_viewers}
use Rattle.shared_desk.proofs.Derived.{leaves_own}
use Rattle.shared_desk.proofs.writer.WriterPass.leave.Goals as goal

pub invariant_of-self : goal.invariant_of-self
invariant_of-self g c = keeps_viewers _ _ _ _ _ c.leave.ensures.called c.self.invariant

pub returns-clause-called : goal.returns-clause-called
returns-clause-called g c = subst (λ (s : ViewerState). Called s.view (Leave s.viewer) (Ok (left c.leave.result)) c.leave.new.self.view) c.self.view_is c.leave.ensures.called

pub returns-clause-own : goal.returns-clause-own
returns-clause-own g c = subst (λ (s : ViewerState). own_entries c.leave.new.self.view ≡ (if is_ok c.leave.result then Left s.viewer ∷ [] else []) ++ own_entries s.view) c.self.view_is (leaves_own _ _ _ c.leave.result c.leave.ensures.called)
