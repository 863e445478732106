-- To draw or to write two lists, one after the other, is to draw or to write both.
use Rattle.std.proofs.Common.{◌≡◌, List, [], ◌∷◌, ◌++◌, refl}
use Rattle.gate_model.specs.declared.instr.Instr.{Instr}
use Rattle.gate_model.specs.picture.Layers.{Layers, play, draw}

pub draw-append : (m : Layers) (first second : List Instr) → draw m (first ++ second) ≡ draw (draw m first) second
draw-append m [] second = refl
draw-append m (i ∷ first) second = draw-append (play m i) first second
