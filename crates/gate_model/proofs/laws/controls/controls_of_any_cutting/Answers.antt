use Rattle.gate_model.proofs.UnfinishedLaws.{characters-cut, controls-cut, controls-stay}
use Rattle.gate_model.proofs.laws.controls.controls_of_any_cutting.Goals as goal

pub returns-clause-characters : goal.returns-clause-characters
returns-clause-characters c = characters-cut

pub returns-clause-controls : goal.returns-clause-controls
returns-clause-controls c = controls-cut

pub returns-clause-stays : goal.returns-clause-stays
returns-clause-stays c = controls-stay
