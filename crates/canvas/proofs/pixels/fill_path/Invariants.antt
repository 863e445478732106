use Rattle.std.proofs.Common.{take, Some, if◌then◌else◌}
use Rattle.canvas.specs.Kept.{Shows, covers, pixel_in}
use Rattle.canvas.proofs.pixels.fill_path.Given as goal

abbrev pub invariant-loop-rectangle : goal.invariant-loop-rectangle
invariant-loop-rectangle l = Shows l.pixels l.width l.height (λ x y. if covers (take l.rectangle-index l.path) x y then Some l.colour else pixel_in l.fn.pixels l.width x y)
