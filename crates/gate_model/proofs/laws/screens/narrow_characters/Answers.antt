use Rattle.gate_model.proofs.Widths.{ascii-narrow, box-narrow}
use Rattle.gate_model.proofs.laws.screens.narrow_characters.Goals as goal

pub returns-clause-ascii : goal.returns-clause-ascii
returns-clause-ascii c = ascii-narrow

pub returns-clause-replacement : goal.returns-clause-replacement
returns-clause-replacement c = box-narrow
