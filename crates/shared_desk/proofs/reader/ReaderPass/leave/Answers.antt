use Rattle.std.proofs.Common.{◌≡◌, subst}
use Rattle.std.specs.Prelude.{Ok}
use Rattle.gate_model.specs.session.Delivered.{delivered}
use Rattle.gate_model.specs.declared.answer.Answer.TheVariants.{Leave as left}
use Rattle.gate_model.specs.declared.event.Event.TheVariants.{Leave}
use Rattle.shared_desk.specs.Called.{Called}
use Rattle.shared_desk.specs.Members.{ViewerState}
use Rattle.shared_desk.proofs.Alone.{keeps_viewers}
use Rattle.shared_desk.proofs.Derived.{keeps_given_text}
use Rattle.shared_desk.proofs.reader.ReaderPass.leave.Goals as goal

pub invariant_of-self : goal.invariant_of-self
invariant_of-self g c = keeps_viewers _ _ _ _ _ c.leave.ensures.called c.self.invariant

pub returns-clause-called : goal.returns-clause-called
returns-clause-called g c = subst (λ (s : ViewerState). Called s.view (Leave s.viewer) (Ok (left c.leave.result)) c.leave.new.self.view) c.self.view_is c.leave.ensures.called

pub returns-clause-delivered : goal.returns-clause-delivered
returns-clause-delivered g c = subst (λ (s : ViewerState). delivered c.leave.new.self.view.seen s.viewer ≡ delivered s.view.seen s.viewer) c.self.view_is (keeps_given_text _ _ _ (left c.leave.result) c.self.invariant c.leave.ensures.called)
