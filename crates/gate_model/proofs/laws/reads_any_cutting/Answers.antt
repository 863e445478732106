use Rattle.gate_model.proofs.Cutting.{resumes}
use Rattle.gate_model.proofs.laws.reads_any_cutting.Goals as goal

pub returns : goal.returns
returns c = λ head is. resumes head is
