use Rattle.viewer_book.proofs.Books.{adds-one}
use Rattle.viewer_book.proofs.laws.additions_add_one.Goals as goal

pub returns : goal.returns
returns c = adds-one
