use Rattle.share_links.proofs.Counting.{counted_uses}
use Rattle.share_links.proofs.laws.uses_are_counted.Goals as goal

pub returns : goal.returns
returns c = counted_uses
