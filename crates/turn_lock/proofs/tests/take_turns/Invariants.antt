use Rattle.std.proofs.Common.{◌≡◌}
use Rattle.turn_lock.specs.Passes.{view_of, IsOutside}
use Rattle.turn_lock.proofs.tests.take_turns.Given as goal

abbrev pub invariant-loop : goal.invariant-loop
invariant-loop g l = record {
  outside : IsOutside l.lock l.pass;
  mark : (view_of l.pass).mark ≡ (view_of l.initial.pass).mark;
  given : (view_of l.pass).given ≡ (view_of l.initial.pass).given;
}
