use Rattle.gate_model.proofs.MendedEdits.{rows-mend, moved-mend, scrolled-mend}
use Rattle.gate_model.proofs.laws.mending.mends_rows.Goals as goal

pub returns-clause-row : goal.returns-clause-row
returns-clause-row c = rows-mend

pub returns-clause-moved : goal.returns-clause-moved
returns-clause-moved c = moved-mend

pub returns-clause-scrolled : goal.returns-clause-scrolled
returns-clause-scrolled c = scrolled-mend
