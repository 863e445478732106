use Rattle.std.proofs.Common.{rules}
use Rattle.turn_lock.proofs.Joins.{meets, tells}
use Rattle.turn_lock.proofs.lock.TurnLock.meet.Goals as goal

pub join_seat-requires : goal.join_seat-requires
join_seat-requires g c = (search rules, search rules, search rules, search rules, meets g.V.Kept.stands g.V.Kept.mark _ _ _ _ c.requires.inside.inside (search rules) (search rules))

pub load-requires : goal.load-requires
load-requires g c = (search rules, search rules, tells g.V.Kept.stands g.V.Kept.mark _ _ _)
