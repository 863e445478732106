use Rattle.std.proofs.Common.{subst}
use Rattle.gate_model.specs.declared.event.Event.TheVariants.{Resize}
use Rattle.desk_core.specs.Calls.{resize_answer}
use Rattle.shared_desk.specs.Called.{Called}
use Rattle.shared_desk.specs.Members.{ViewerState}
use Rattle.shared_desk.proofs.Alone.{keeps_viewers}
use Rattle.shared_desk.proofs.Derived.{SizesOwn, sizes}
use Rattle.shared_desk.proofs.writer.WriterPass.resize.Goals as goal

pub invariant_of-self : goal.invariant_of-self
invariant_of-self g c = keeps_viewers _ _ _ _ _ c.resize.ensures.called c.self.invariant

pub returns-clause-called : goal.returns-clause-called
returns-clause-called g c = subst (λ (s : ViewerState). Called s.view (Resize s.viewer c.args.cols c.args.rows) (resize_answer c.resize.result) c.resize.new.self.view) c.self.view_is c.resize.ensures.called

pub returns-clause-own : goal.returns-clause-own
returns-clause-own g c = subst (λ (s : ViewerState). SizesOwn s.view c.resize.new.self.view s.viewer c.args.cols c.args.rows c.resize.result) c.self.view_is (sizes _ _ _ c.args.cols c.args.rows c.resize.result c.resize.ensures.called)
