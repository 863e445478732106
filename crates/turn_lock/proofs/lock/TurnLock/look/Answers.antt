use Rattle.std.proofs.Common.{rules}
use Rattle.turn_lock.proofs.Looks.{looks}
use Rattle.turn_lock.proofs.lock.TurnLock.look.Goals as goal

pub load-requires : goal.load-requires
load-requires g c = (search rules, search rules, looks g.V.Kept.stands g.V.Kept.mark _ _ _ c.requires.waiting.inside c.requires.waiting.slot)
