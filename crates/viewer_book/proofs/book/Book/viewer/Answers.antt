use Rattle.viewer_book.proofs.Places.{found-there}
use Rattle.viewer_book.proofs.book.Book.viewer.Goals as goal

pub returns : goal.returns
returns c = found-there c.self.inside.joined c.self.inside.viewers.items c.args.self.now c.args.number c.place.result c.index.result.now c.self.view_is c.place.ensures c.index.ensures
