use Rattle.gate_model.proofs.KeyLaws.{modifiers-silent}
use Rattle.gate_model.proofs.laws.keys.modifiers_send_nothing.Goals as goal

pub returns : goal.returns
returns c = modifiers-silent
