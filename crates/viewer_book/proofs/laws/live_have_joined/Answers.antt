use Rattle.viewer_book.proofs.Books.{found-is}
use Rattle.viewer_book.proofs.laws.live_have_joined.Goals as goal

pub returns : goal.returns
returns c = found-is
