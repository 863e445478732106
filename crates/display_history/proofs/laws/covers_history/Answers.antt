use Rattle.display_history.proofs.Texts.{covers_of_history}
use Rattle.display_history.proofs.laws.covers_history.Goals as goal

pub returns : goal.returns
returns c = covers_of_history c.kept_are_last.ensures.last c.covers_by_stamp.ensures.stamp
