use Rattle.display_history.proofs.Ends.{newest_kept, none_kept}
use Rattle.display_history.proofs.laws.newest_is_kept.Goals as goal

pub returns : goal.returns
returns c = λ fs f. (newest_kept fs f, none_kept fs f)
