use Rattle.gate_model.proofs.Layering.{layers-drawn, nothing-layers}
use Rattle.gate_model.proofs.laws.frames.layers_are_drawn.Goals as goal

pub returns : goal.returns
returns c = record { drawn = layers-drawn; nothing = nothing-layers }
