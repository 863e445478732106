use Rattle.std.proofs.Common.{ℕ, ◌<◌}
use Rattle.gate_model.specs.picture.Layers.{Layers, visible}
use Rattle.canvas.specs.Standing.{Stands}
use Rattle.look.specs.Faces.{HasPixel}
use Rattle.look.proofs.faces.has_line.Given as goal

abbrev pub invariant-loop-x : goal.invariant-loop-x
invariant-loop-x l = (m : Layers) → Stands l.canvas m → (x : ℕ) → x < l.x → HasPixel (m visible) l.column l.row l.face l.under l.pair.ink l.pair.paper x l.y
