use Rattle.gate_model.proofs.Scrolls.{scrolls-counted, scrolls-unreported}
use Rattle.gate_model.proofs.laws.screens.scrolls_are_counted.Goals as goal

pub returns : goal.returns
returns c = record { counted = scrolls-counted; unreported = scrolls-unreported }
