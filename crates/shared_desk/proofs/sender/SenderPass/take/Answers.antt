use Rattle.std.proofs.Common.{rules, arith, length-take, ap, ◌≡◌, ℕ, ◌+◌, ◌∙◌, length, take, subst}
use Rattle.gate_model.specs.session.Output.{taken}
use Rattle.shared_desk.specs.Members.{PassState}
use Rattle.shared_desk.specs.Takes.{TakesNext}
use Rattle.shared_desk.proofs.Turns.{at_old, keeps_pass_mark}
use Rattle.shared_desk.proofs.Alone.{sent_on}
use Rattle.shared_desk.proofs.Derived.{takes_on}
use Rattle.shared_desk.proofs.sender.SenderPass.take.Goals as goal

pub invariant_of-self : goal.invariant_of-self
invariant_of-self g c = keeps_pass_mark 2 _ _ _ c.take.ensures.called c.self.invariant

pub returns-clause-called : goal.returns-clause-called
returns-clause-called g c = at_old _ _ _ _ (ap (λ (s : PassState). s.view) c.self.view_is) c.take.ensures.called

pub returns-clause-takes : goal.returns-clause-takes
returns-clause-takes g c =
    let kept : length c.take.new.into ≡ length c.args.into.now = search rules in
    let many : length (take c.take.result.count c.take.new.into) ≡ c.take.result.count = omega (arith, length-take c.take.result.count c.take.new.into, kept, c.take.ensures.fills.within) in
    let on = takes_on _ _ _ c.take.result c.take.new.into c.self.invariant.mark c.take.ensures.called in
    subst (λ (s : PassState). TakesNext (length c.args.into.now) s.view.seen c.take.new.self.view.seen (take c.take.result.count c.take.new.into) c.take.result.count) c.self.view_is
    (record { next = on.next; taken = on.taken ∙ ap (λ (n : ℕ). taken c.self.inside.member.view.seen + n) many; sent = sent_on _ _ _ c.take.ensures.called })
