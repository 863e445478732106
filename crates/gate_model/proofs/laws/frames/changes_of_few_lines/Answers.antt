use Rattle.gate_model.proofs.Layering.{changes-few_lines}
use Rattle.gate_model.proofs.laws.frames.changes_of_few_lines.Goals as goal

pub returns : goal.returns
returns c = changes-few_lines
