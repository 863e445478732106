use Rattle.std.proofs.Common.{subst}
use Rattle.gate_model.specs.declared.event.Event.TheVariants.{Read}
use Rattle.desk_core.specs.Calls.{read_answer}
use Rattle.shared_desk.specs.Called.{Gives}
use Rattle.shared_desk.specs.Members.{ViewerState}
use Rattle.shared_desk.proofs.Alone.{keeps_viewers}
use Rattle.shared_desk.proofs.Derived.{Delivers, delivers}
use Rattle.shared_desk.proofs.reader.ReaderPass.read.Goals as goal

pub invariant_of-self : goal.invariant_of-self
invariant_of-self g c = keeps_viewers _ _ _ _ _ c.read.ensures.called c.self.invariant

pub returns-clause-gives : goal.returns-clause-gives
returns-clause-gives g c = subst (λ (s : ViewerState). Gives s.view (Read s.viewer) (read_answer c.read.result) c.read.new.self.view c.args.into.now.items c.read.new.into.items) c.self.view_is c.read.ensures.called

pub returns-clause-delivered : goal.returns-clause-delivered
returns-clause-delivered g c = subst (λ (s : ViewerState). Delivers s.view c.read.new.self.view s.viewer c.args.into.now.items c.read.new.into.items) c.self.view_is (delivers _ _ _ (read_answer c.read.result) _ _ c.self.invariant c.read.ensures.called)
