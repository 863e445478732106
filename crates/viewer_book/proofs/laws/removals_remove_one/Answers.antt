use Rattle.viewer_book.proofs.Books.{removes-one}
use Rattle.viewer_book.proofs.laws.removals_remove_one.Goals as goal

pub returns : goal.returns
returns c = removes-one
