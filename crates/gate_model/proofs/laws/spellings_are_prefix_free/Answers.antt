use Rattle.gate_model.proofs.Spelt.{prefix_free}
use Rattle.gate_model.proofs.laws.spellings_are_prefix_free.Goals as goal

pub returns : goal.returns
returns c = prefix_free
