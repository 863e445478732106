use Rattle.turn_lock.specs.Passes.{view_of, IsNext}
use Rattle.turn_lock.proofs.lock.TurnLock.add.Given as goal

abbrev pub ghosts-raise : goal.ghosts-raise
ghosts-raise g a = record { adds = IsNext g.V.Kept.stands g.V.Kept.mark g.N.Adds.adds a.value.now (view_of a.pass.now) }
