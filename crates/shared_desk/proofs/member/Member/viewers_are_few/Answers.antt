use Rattle.std.proofs.Common.{◌≤◌, subst}
use Rattle.gate_model.specs.session.History.{joined}
use Rattle.gate_model.specs.Limits.{most_joined}
use Rattle.gate_model.proofs.Bounds.{bounds_of}
use Rattle.shared_desk.specs.Members.{PassState}
use Rattle.shared_desk.proofs.member.Member.viewers_are_few.Goals as goal

pub returns : goal.returns
returns c = subst (λ (s : PassState). joined s.view.seen ≤ most_joined) c.self.view_is (bounds_of _ c.self.invariant.1.sound.legal).few_joined
