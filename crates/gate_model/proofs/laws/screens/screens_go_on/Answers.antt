use Rattle.gate_model.proofs.Cuts.{screens-go-on, screens-turn}
use Rattle.gate_model.proofs.laws.screens.screens_go_on.Goals as goal

pub returns-clause-bytes : goal.returns-clause-bytes
returns-clause-bytes c = screens-go-on

pub returns-clause-size : goal.returns-clause-size
returns-clause-size c = screens-turn
