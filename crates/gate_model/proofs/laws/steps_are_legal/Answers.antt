use Rattle.gate_model.proofs.Histories.{legal-more}
use Rattle.gate_model.proofs.laws.steps_are_legal.Goals as goal

pub returns : goal.returns
returns c = legal-more
