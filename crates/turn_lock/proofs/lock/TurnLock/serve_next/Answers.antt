use Rattle.std.proofs.Common.{rules}
use Rattle.turn_lock.proofs.PassesOn.{passes_on}
use Rattle.turn_lock.proofs.lock.TurnLock.serve_next.Goals as goal

pub fetch_add-requires : goal.fetch_add-requires
fetch_add-requires g c = (search rules, search rules, passes_on g.V.Kept.stands g.V.Kept.mark _ _ c.requires.slot.0 _ c.requires.inside c.requires.slot.1 c.requires.slot.2)
