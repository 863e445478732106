use Rattle.std.proofs.Common.{◌∙◌, ap}
use Rattle.viewer_book.specs.Book.{BookState}
use Rattle.viewer_book.proofs.Places.{live-there}
use Rattle.viewer_book.proofs.book.Book.is_live.Goals as goal

pub returns-clause-live : goal.returns-clause-live
returns-clause-live c = c.is_some.ensures ∙ live-there c.args.self.now c.deref.result.now c.args.viewer c.place_of.result (c.deref.ensures.value ∙ ap (λ (b : BookState). b.viewers) c.self.view_is) c.place_of.ensures
