use Rattle.gate_model.proofs.MendedEdits.{two-mend, windows-mend, put-mends, pair-mends, erased-mends}
use Rattle.gate_model.proofs.laws.mending.mends_beside.Goals as goal

pub returns-clause-two : goal.returns-clause-two
returns-clause-two c = two-mend

pub returns-clause-window : goal.returns-clause-window
returns-clause-window c = windows-mend

pub returns-clause-put : goal.returns-clause-put
returns-clause-put c = put-mends

pub returns-clause-pair : goal.returns-clause-pair
returns-clause-pair c = pair-mends

pub returns-clause-erased : goal.returns-clause-erased
returns-clause-erased c = erased-mends
