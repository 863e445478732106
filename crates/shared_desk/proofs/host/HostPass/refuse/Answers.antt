use Rattle.std.proofs.Common.{[], ap}
use Rattle.shared_desk.specs.Hosts.{HostState}
use Rattle.shared_desk.proofs.Turns.{at_old}
use Rattle.shared_desk.proofs.Hosts.{keeps_turn}
use Rattle.shared_desk.proofs.host.HostPass.refuse.Goals as goal

pub invariant_of-self : goal.invariant_of-self
invariant_of-self g c = keeps_turn _ _ _ _ _ c.self.invariant c.refuse.ensures.session (c.refuse.ensures.called [])

pub returns-clause-step : goal.returns-clause-step
returns-clause-step g c = λ text. at_old _ _ _ _ (ap (λ (s : HostState). s.view) c.self.view_is) (c.refuse.ensures.called text)
