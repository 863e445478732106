use Rattle.viewer_book.proofs.Books.{next-is-new}
use Rattle.viewer_book.proofs.laws.next_is_new.Goals as goal

pub returns : goal.returns
returns c = next-is-new
