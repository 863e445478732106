use Rattle.std.proofs.Common.{subst, Err}
use Rattle.service_door.specs.Sessions.{SessionState}
use Rattle.shared_desk.specs.Hosts.{JoinEnds}
use Rattle.service_door.proofs.session.Session.refuse.Goals as goal

pub returns-clause-step : goal.returns-clause-step
returns-clause-step g c = λ text. subst (λ (s : SessionState). JoinEnds s.host.view c.args.role (Err c.refuse.result) c.refuse.new.self.view text text) c.self.view_is (c.refuse.ensures.step text)
