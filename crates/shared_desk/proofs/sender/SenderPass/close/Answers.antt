use Rattle.std.proofs.Common.{ap, ◌≡◌, subst}
use Rattle.gate_model.specs.session.Output.{out, taken}
use Rattle.gate_model.specs.Sequences.{BeginsWith}
use Rattle.shared_desk.specs.Members.{PassState}
use Rattle.shared_desk.proofs.Turns.{at_old, keeps_pass_mark}
use Rattle.shared_desk.proofs.Alone.{taken_measure, closed_keeps, sent_on}
use Rattle.shared_desk.proofs.sender.SenderPass.close.Goals as goal

pub invariant_of-self : goal.invariant_of-self
invariant_of-self g c = keeps_pass_mark 2 _ _ _ c.close.ensures.called c.self.invariant

pub returns-clause-called : goal.returns-clause-called
returns-clause-called g c = at_old _ _ _ _ (ap (λ (s : PassState). s.view) c.self.view_is) c.close.ensures.called

pub returns-clause-taken : goal.returns-clause-taken
returns-clause-taken g c = subst (λ (s : PassState). taken c.close.new.self.view.seen ≡ taken s.view.seen) c.self.view_is (closed_keeps taken 2 taken_measure _ _ _ _ c.self.invariant.mark c.close.ensures.called)

pub returns-clause-sent : goal.returns-clause-sent
returns-clause-sent g c = subst (λ (s : PassState). BeginsWith (out c.close.new.self.view.seen) (out s.view.seen)) c.self.view_is (sent_on _ _ _ c.close.ensures.called)
