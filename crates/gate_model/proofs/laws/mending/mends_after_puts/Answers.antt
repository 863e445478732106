use Rattle.gate_model.proofs.MendedPuts.{puts-mend}
use Rattle.gate_model.proofs.laws.mending.mends_after_puts.Goals as goal

pub returns : goal.returns
returns c = puts-mend
