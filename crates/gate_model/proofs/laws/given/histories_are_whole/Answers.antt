use Rattle.gate_model.proofs.Wholes.{whole_of, faithful_of}
use Rattle.gate_model.proofs.laws.given.histories_are_whole.Goals as goal

pub returns : goal.returns
returns c = record { whole = whole_of; faithful = faithful_of }
