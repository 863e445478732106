use Rattle.std.proofs.Common.{◌+◌}
use Rattle.canvas.specs.Kept.{Shows, pixel_in}
use Rattle.canvas.proofs.pixels.take_part.Given as goal

abbrev pub invariant-loop-row : goal.invariant-loop-row
invariant-loop-row l = Shows l.part.items l.area.width l.row (λ x y. pixel_in l.pixels l.width (l.area.x + x) (l.area.y + y))
