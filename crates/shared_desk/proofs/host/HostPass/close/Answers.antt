use Rattle.std.proofs.Common.{ap}
use Rattle.shared_desk.specs.Hosts.{HostState}
use Rattle.shared_desk.proofs.Turns.{at_old}
use Rattle.shared_desk.proofs.Hosts.{keeps_turn}
use Rattle.shared_desk.proofs.host.HostPass.close.Goals as goal

pub invariant_of-self : goal.invariant_of-self
invariant_of-self g c = keeps_turn _ _ _ _ _ c.self.invariant c.close.ensures.session c.close.ensures.called

pub returns-clause-called : goal.returns-clause-called
returns-clause-called g c = at_old _ _ _ _ (ap (λ (s : HostState). s.view) c.self.view_is) c.close.ensures.called
