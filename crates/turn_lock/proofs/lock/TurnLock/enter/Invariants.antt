use Rattle.std.proofs.Common.{◌≡◌}
use Rattle.turn_lock.specs.Passes.{IsWaiting}
use Rattle.turn_lock.proofs.lock.TurnLock.enter.Given as goal

abbrev pub invariant-loop : goal.invariant-loop
invariant-loop g l = IsWaiting l.self l.pass × (l.pass.seat.me ≡ l.initial.pass.seat.me)
