use Rattle.gate_model.proofs.Drawing.{draw-append}
use Rattle.gate_model.proofs.laws.drawing_goes_on.Goals as goal

pub returns : goal.returns
returns c = draw-append
