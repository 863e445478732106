use Rattle.std.proofs.Common.{◌≡◌, ◌++◌}
use Rattle.dirty_region.specs.Places.{differing}
use Rattle.dirty_region.proofs.rows.add_row.Given as goal

abbrev pub invariant-loop-x : goal.invariant-loop-x
invariant-loop-x l = l.held.items ≡ l.fn.held.items ++ differing l.before l.after l.y l.x
