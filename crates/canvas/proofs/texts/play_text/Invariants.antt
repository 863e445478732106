use Rattle.std.proofs.Common.{◌≡◌, ◌-◌, ◌≤◌, List, length, drop}
use Rattle.gate_model.specs.declared.instr.Instr.{Instr}
use Rattle.gate_model.specs.picture.Layers.{Layers}
use Rattle.gate_model.specs.text.Text.{texts}
use Rattle.canvas.specs.Standing.{Stands}
use Rattle.gate_model.specs.picture.Shape.{AreReadable}
use Rattle.canvas.proofs.TextLaws.{Left}
use Rattle.canvas.proofs.texts.play_text.Given as goal

abbrev pub invariant-loop-at : goal.invariant-loop-at
invariant-loop-at l = record {
  within : l.at ≤ length l.text;
  played : (is : List Instr) (m : Layers) → AreReadable is → l.text ≡ texts is → Stands l.fn.canvas m → Left is m (drop l.at l.text) l.canvas;
}

abbrev pub decreases-loop-at : goal.decreases-loop-at
decreases-loop-at l = length l.text - l.at
