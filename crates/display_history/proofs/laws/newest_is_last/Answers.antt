use Rattle.display_history.proofs.Stands.{newest_last}
use Rattle.display_history.proofs.laws.newest_is_last.Goals as goal

pub returns : goal.returns
returns c = newest_last
