use Rattle.gate_model.proofs.Alike.{same-goes_on}
use Rattle.gate_model.proofs.laws.frames.sameness_goes_on.Goals as goal

pub returns : goal.returns
returns c = same-goes_on
