use Rattle.std.proofs.Common.{take}
use Rattle.gate_model.specs.picture.Layers.{Layers, draw}
use Rattle.canvas.specs.Standing.{Stands}
use Rattle.look.proofs.looking.play_all.Given as goal

abbrev pub invariant-loop-instr : goal.invariant-loop-instr
invariant-loop-instr l = (m : Layers) → Stands l.fn.canvas m → Stands l.canvas (draw m (take l.instr-index l.instrs))
