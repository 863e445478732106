use Rattle.std.proofs.Common.{◌≡◌, ◌+◌}
use Rattle.gate_model.specs.picture.Layers.{Layers, visible}
use Rattle.canvas.specs.Standing.{Stands}
use Rattle.gate_script.specs.Plays.{row_sum}
use Rattle.gate_script.proofs.seeing.row_sum.Given as goal

abbrev pub invariant-loop-x : goal.invariant-loop-x
invariant-loop-x l = (m : Layers) → Stands l.canvas m → l.sum ≡ l.before + row_sum (m visible) l.y l.x
