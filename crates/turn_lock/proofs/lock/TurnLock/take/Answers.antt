use Rattle.std.proofs.Common.{◌∷◌, Some, sym, ap, ◌∙◌}
use Rattle.atomic_table.specs.Table.{rest}
use Rattle.turn_lock.proofs.lock.TurnLock.take.Goals as goal

pub exchange-requires : goal.exchange-requires
exchange-requires g c = let x = c.requires.slot in (c.requires.lock, (Some x.0, x.1 ∙ ap (λ l. (0, Some x.0) ∷ rest l) (sym x.1)))
