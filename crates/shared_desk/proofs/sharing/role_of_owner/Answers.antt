use Rattle.std.proofs.Common.{arith}
use Rattle.shared_desk.proofs.Openings.{owner_has}
use Rattle.shared_desk.proofs.sharing.role_of_owner.Goals as goal

pub returns-then-entries-eq2 : goal.returns-then-entries-eq2
returns-then-entries-eq2 c = λ h s o. owner_has h c.role.result o (omega (arith, c.entries.ensures.counts h s, c.if-entries-eq2.true)) (c.role.ensures h s)
