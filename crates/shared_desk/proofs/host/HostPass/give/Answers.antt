use Rattle.std.proofs.Common.{arith, ap}
use Rattle.gate_model.specs.declared.entry.Entry.{Entry}
use Rattle.turn_lock.specs.declared.view.View.{View}
use Rattle.shared_desk.specs.Hosts.{HostState}
use Rattle.shared_desk.specs.Members.{PassState}
use Rattle.shared_desk.proofs.Hosts.{keeps_later}
use Rattle.shared_desk.proofs.Passes.{apart_at}
use Rattle.shared_desk.proofs.host.HostPass.give.Goals as goal

pub invariant_of-self : goal.invariant_of-self
invariant_of-self c = keeps_later c.self.inside.member c.merge.new.self c.self.inside.spare c.self.inside.out _ c.self.invariant c.merge.ensures.session
    (ap (λ (v : View Entry). v.mark) c.merge.ensures.view) (ap (λ (v : View Entry). v.given) c.merge.ensures.view) c.merge.ensures.begins.0 (omega (arith, c.saturating_sub-self-inside.ensures))

pub returns-clause-apart : goal.returns-clause-apart
returns-clause-apart c = apart_at _ _ _ _ (ap (λ (s : HostState). s.view) c.self.view_is) (ap (λ (s : PassState). s.view) c.into_member.ensures.same) c.merge.ensures.apart
