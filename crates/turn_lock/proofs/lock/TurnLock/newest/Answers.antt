use Rattle.std.proofs.Common.{rules}
use Rattle.turn_lock.proofs.Counts.{counts}
use Rattle.turn_lock.proofs.lock.TurnLock.newest.Goals as goal

pub load-requires : goal.load-requires
load-requires g c = (search rules, search rules, counts g.V.Kept.stands g.V.Kept.mark _ _ _)
