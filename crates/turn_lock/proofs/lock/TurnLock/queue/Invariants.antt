use Rattle.std.proofs.Common.{◌≡◌}
use Rattle.turn_lock.specs.Passes.{view_of, IsOutside}
use Rattle.turn_lock.proofs.lock.TurnLock.queue.Given as goal

abbrev pub invariant-loop : goal.invariant-loop
invariant-loop g l = IsOutside l.self l.pass × (view_of l.pass ≡ view_of l.initial.pass)
