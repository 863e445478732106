use Rattle.std.proofs.Common.{◌∙◌, ap}
use Rattle.viewer_book.specs.Book.{BookState}
use Rattle.viewer_book.proofs.Places.{live-there}
use Rattle.viewer_book.proofs.book.Book.place.Goals as goal

pub unwrap-requires : goal.unwrap-requires
unwrap-requires c = live-there c.args.self.now c.deref.result.now c.args.number c.place_of.result (c.deref.ensures.value ∙ ap (λ (b : BookState). b.viewers) c.self.view_is) c.place_of.ensures ∙ c.requires
