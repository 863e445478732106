use Rattle.std.proofs.Common.{ap}
use Rattle.shared_desk.specs.Members.{PassState}
use Rattle.shared_desk.proofs.Passes.{begins_at, apart_at}
use Rattle.shared_desk.proofs.member.Member.merge.Goals as goal

pub returns-clause-begins : goal.returns-clause-begins
returns-clause-begins c = begins_at _ _ _ _ _ (ap (λ (s : PassState). s.view) c.self.view_is) (ap (λ (s : PassState). s.view) c.other.view_is) c.join.ensures.begins

pub returns-clause-apart : goal.returns-clause-apart
returns-clause-apart c = apart_at _ _ _ _ (ap (λ (s : PassState). s.view) c.self.view_is) (ap (λ (s : PassState). s.view) c.other.view_is) c.join.ensures.apart
