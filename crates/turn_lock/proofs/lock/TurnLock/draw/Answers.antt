use Rattle.std.proofs.Common.{rules}
use Rattle.turn_lock.proofs.Draws.{draws}
use Rattle.turn_lock.proofs.lock.TurnLock.draw.Goals as goal

pub compare_exchange-requires : goal.compare_exchange-requires
compare_exchange-requires g c = (search rules, search rules, draws g.V.Kept.stands g.V.Kept.mark _ _ _ _ c.requires.outside.inside c.requires.below)
