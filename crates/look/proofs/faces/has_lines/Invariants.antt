use Rattle.std.proofs.Common.{ℕ, ◌<◌}
use Rattle.gate_model.specs.picture.Layers.{Layers, visible}
use Rattle.canvas.specs.Standing.{Stands}
use Rattle.look.specs.Faces.{HasPixel}
use Rattle.look.proofs.faces.has_lines.Given as goal

abbrev pub invariant-loop-y : goal.invariant-loop-y
invariant-loop-y l = (m : Layers) → Stands l.canvas m → (x y : ℕ) → x < 8 → y < l.y → HasPixel (m visible) l.column l.row l.face l.under l.pair.ink l.pair.paper x y
