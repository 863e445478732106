use Rattle.gate_model.proofs.UnfinishedLaws.{characters-lossy, unfinished-begins}
use Rattle.gate_model.proofs.laws.controls.characters_are_lossy.Goals as goal

pub returns-clause-lossy : goal.returns-clause-lossy
returns-clause-lossy c = characters-lossy

pub returns-clause-unfinished : goal.returns-clause-unfinished
returns-clause-unfinished c = unfinished-begins
