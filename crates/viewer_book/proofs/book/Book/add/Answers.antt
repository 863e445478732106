use Rattle.viewer_book.proofs.Places.{book-more}
use Rattle.viewer_book.proofs.book.Book.add.Goals as goal

pub invariant_of-self-2 : goal.invariant_of-self-2
invariant_of-self-2 c = book-more c.self.inside.joined c.self.inside.viewers.items c.push.new.self.items c.args.self.now c.args.role c.args.stamp c.in_ok-viewer.viewer c.self.view_is c.self.invariant c.requires.few_live c.requires.few_joined c.in_ok-viewer.ensures c.in_ok-push.ensures.items
