use Rattle.display_history.proofs.Stands.{kept_few}
use Rattle.display_history.proofs.laws.kept_are_few.Goals as goal

pub returns : goal.returns
returns c = kept_few
