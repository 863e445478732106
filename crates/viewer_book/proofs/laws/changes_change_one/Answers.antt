use Rattle.viewer_book.proofs.Books.{changes-one}
use Rattle.viewer_book.proofs.laws.changes_change_one.Goals as goal

pub returns : goal.returns
returns c = changes-one
