use Rattle.std.proofs.Common.{◌≡◌}
use Rattle.try_threads.proofs.rows.type_often.Given as goal

abbrev pub invariant-loop : goal.invariant-loop
invariant-loop g l = record { session : l.pass.session ≡ l.initial.pass.session }
