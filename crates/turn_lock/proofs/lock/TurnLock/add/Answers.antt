use Rattle.std.proofs.Common.{[], ◌∷◌, ap}
use Rattle.turn_lock.specs.declared.view.View.{View}
use Rattle.turn_lock.proofs.lock.TurnLock.add.Goals as goal

pub returns-then-appended-clause-seen : goal.returns-then-appended-clause-seen
returns-then-appended-clause-seen g c = let e = c.raise.ensures.raised in (e.0 ∷ [], ap (λ (v : View g.row.V-Entry.Denot). v.seen) e.3)
