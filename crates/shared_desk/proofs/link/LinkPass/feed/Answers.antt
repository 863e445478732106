use Rattle.std.proofs.Common.{ap, ◌≡◌, ◌++◌, subst}
use Rattle.std.specs.Prelude.{is_ok, if◌then◌else◌}
use Rattle.gate_model.specs.session.History.{bytes}
use Rattle.shared_desk.specs.Members.{PassState}
use Rattle.shared_desk.proofs.Turns.{at_old, keeps_pass_mark}
use Rattle.shared_desk.proofs.Derived.{hears}
use Rattle.shared_desk.proofs.link.LinkPass.feed.Goals as goal

pub invariant_of-self : goal.invariant_of-self
invariant_of-self g c = keeps_pass_mark 1 _ _ _ c.feed.ensures.called c.self.invariant

pub returns-clause-called : goal.returns-clause-called
returns-clause-called g c = at_old _ _ _ _ (ap (λ (s : PassState). s.view) c.self.view_is) c.feed.ensures.called

pub returns-clause-heard : goal.returns-clause-heard
returns-clause-heard g c =
    subst (λ (s : PassState). bytes c.feed.new.self.view.seen ≡ (if is_ok c.feed.result then bytes s.view.seen ++ c.args.bytes.now else bytes s.view.seen)) c.self.view_is
    (hears _ _ c.args.bytes.now c.args.now c.feed.result c.self.invariant.mark c.feed.ensures.called)
