use Rattle.std.proofs.Common.{◌≡◌, ◌*◌}
use Rattle.dirty_region.specs.Bands.{is_left}
use Rattle.dirty_region.specs.Places.{place_of}
use Rattle.dirty_region.proofs.Differing.{passed}
use Rattle.dirty_region.proofs.rows.left.Given as goal

abbrev pub invariant-loop-y : goal.invariant-loop-y
invariant-loop-y l = l.held.items ≡ passed (place_of l.new.cols) (is_left l.old l.new l.shift l.band) 0 (l.y * l.new.cols)
