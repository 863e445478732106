use Rattle.std.proofs.Common.{◌≡◌, ◌*◌}
use Rattle.gate_model.specs.session.Cost.{is_changed}
use Rattle.dirty_region.specs.Places.{place_of}
use Rattle.dirty_region.proofs.Differing.{passed}
use Rattle.dirty_region.proofs.rows.changes.Given as goal

abbrev pub invariant-loop-y : goal.invariant-loop-y
invariant-loop-y l = l.held.items ≡ passed (place_of l.new.cols) (is_changed l.old l.new l.shift) 0 (l.y * l.new.cols)
