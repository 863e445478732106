use Rattle.turn_lock.specs.Passes.{IsOutside}
use Rattle.turn_lock.proofs.tests.wake_often.Given as goal

abbrev pub invariant-loop : goal.invariant-loop
invariant-loop g l = record {
  holder : IsOutside l.lock l.holder;
  one : IsOutside l.lock l.one;
  other : IsOutside l.lock l.other;
}
