use Rattle.std.proofs.Common.{rules}
use Rattle.turn_lock.proofs.Raises.{raises}
use Rattle.turn_lock.proofs.lock.TurnLock.raise.Goals as goal

pub fetch_add-requires : goal.fetch_add-requires
fetch_add-requires g c =
    let e = c.requires.next in
    (search rules, search rules, raises g.V.Kept.stands g.V.Kept.mark g.met.V.Kept.few g.N.Adds.adds _ _ c.args.value.now e.0 _ c.requires.inside.inside e.1.named e.1.may e.1.stood)
