use Rattle.std.proofs.Common.{◌≤◌}
use Rattle.look.proofs.faces.put_row.Given as goal

abbrev pub invariant-loop-column : goal.invariant-loop-column
invariant-loop-column l = l.blanks ≤ l.column
