-- How far instructions were played on a canvas (this project's own).
use Rattle.std.specs.Prelude.{◌≡◌, List, ◌++◌}
use Rattle.gate_model.specs.declared.instr.Instr.{Instr}
use Rattle.gate_model.specs.picture.Layers.{Layers, draw}
use Rattle.canvas.specs.Kept.{KeptLayer}
use Rattle.canvas.specs.Standing.{Stands}

-- the first of them, some or none, were played on the layers, and the others weren't
pub record IsPartPlayed (is : List Instr) (m : Layers) (kept : List KeptLayer) : Type 0 where
  pub done : List Instr
  pub left : List Instr
  pub split : is ≡ done ++ left
  pub stands : Stands kept (draw m done)
