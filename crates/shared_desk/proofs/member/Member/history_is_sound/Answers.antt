use Rattle.std.proofs.Common.{subst}
use Rattle.shared_desk.specs.Members.{IsSound, PassState}
use Rattle.shared_desk.proofs.member.Member.history_is_sound.Goals as goal

pub returns : goal.returns
returns c = subst (λ (s : PassState). IsSound s.view.seen) c.self.view_is c.self.invariant.1.sound
