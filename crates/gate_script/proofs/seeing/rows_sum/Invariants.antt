use Rattle.std.proofs.Common.{◌≡◌}
use Rattle.gate_model.specs.picture.Layers.{Layers, visible}
use Rattle.canvas.specs.Standing.{Stands}
use Rattle.gate_script.specs.Plays.{rows_sum}
use Rattle.gate_script.proofs.seeing.rows_sum.Given as goal

abbrev pub invariant-loop-y : goal.invariant-loop-y
invariant-loop-y l = (m : Layers) → Stands l.canvas m → l.width ≡ (m visible).width → l.sum ≡ rows_sum (m visible) l.y
