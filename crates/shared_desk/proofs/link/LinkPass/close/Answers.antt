use Rattle.std.proofs.Common.{ap, ◌≡◌, subst}
use Rattle.gate_model.specs.session.History.{bytes}
use Rattle.shared_desk.specs.Members.{PassState}
use Rattle.shared_desk.proofs.Turns.{at_old, keeps_pass_mark}
use Rattle.shared_desk.proofs.Alone.{bytes_measure, closed_keeps}
use Rattle.shared_desk.proofs.link.LinkPass.close.Goals as goal

pub invariant_of-self : goal.invariant_of-self
invariant_of-self g c = keeps_pass_mark 1 _ _ _ c.close.ensures.called c.self.invariant

pub returns-clause-called : goal.returns-clause-called
returns-clause-called g c = at_old _ _ _ _ (ap (λ (s : PassState). s.view) c.self.view_is) c.close.ensures.called

pub returns-clause-heard : goal.returns-clause-heard
returns-clause-heard g c = subst (λ (s : PassState). bytes c.close.new.self.view.seen ≡ bytes s.view.seen) c.self.view_is (closed_keeps bytes 1 bytes_measure _ _ _ _ c.self.invariant.mark c.close.ensures.called)
