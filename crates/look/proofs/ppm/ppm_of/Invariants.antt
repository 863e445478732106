use Rattle.std.proofs.Common.{◌≡◌, ◌++◌}
use Rattle.gate_model.specs.picture.Layers.{Layers, visible}
use Rattle.canvas.specs.Standing.{Stands}
use Rattle.look.specs.Ppm.{head_of, lines_of}
use Rattle.look.proofs.ppm.ppm_of.Given as goal

abbrev pub invariant-loop-y : goal.invariant-loop-y
invariant-loop-y l = (m : Layers) → Stands l.canvas m → l.into.items ≡ head_of l.width l.height ++ lines_of (m visible) l.y
