use Rattle.std.proofs.Common.{◌≡◌, ◌++◌}
use Rattle.gate_model.specs.picture.Layers.{Layers, visible}
use Rattle.canvas.specs.Standing.{Stands}
use Rattle.look.specs.Ppm.{line_of}
use Rattle.look.proofs.ppm.put_line.Given as goal

abbrev pub invariant-loop-x : goal.invariant-loop-x
invariant-loop-x l = (m : Layers) → Stands l.canvas m → l.into.items ≡ l.fn.into.items ++ line_of (m visible) l.y l.x
