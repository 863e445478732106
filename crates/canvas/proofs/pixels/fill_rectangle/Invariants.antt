use Rattle.std.proofs.Common.{Some, if◌then◌else◌}
use Rattle.canvas.specs.Kept.{Shows, is_within, pixel_in}
use Rattle.canvas.proofs.pixels.fill_rectangle.Given as goal

abbrev pub invariant-loop-y : goal.invariant-loop-y
invariant-loop-y l = Shows l.pixels l.width l.height (λ x y. if is_within l.left l.right l.top l.y x y then Some l.colour else pixel_in l.fn.pixels l.width x y)
