use Rattle.std.proofs.Common.{◌≡◌, ◌∙◌, set, refl, ap, sym, subst}
use Rattle.viewer_book.specs.declared.viewer.Viewer.{Viewer}
use Rattle.viewer_book.specs.Book.{BookState, IsBook, moved_to}
use Rattle.viewer_book.proofs.Places.{book-there, changed-there, found-there}
use Rattle.viewer_book.proofs.book.Book.deliver.Goals as goal

pub give-requires : goal.give-requires
give-requires c = c.requires.few c.index_mut.result.now (found-there c.self.inside.joined c.self.inside.viewers.items c.args.self.now c.args.viewer c.place-place.result c.index_mut.result.now c.self.view_is c.place-place.ensures c.index_mut.ensures.value)

pub invariant_of-self : goal.invariant_of-self
invariant_of-self c =
    let book : Viewer → BookState = λ v. record { joined = c.self.inside.joined; viewers = set c.self.inside.viewers.items c.place-place.result v } in
    subst (λ (v : Viewer). IsBook (book v)) (sym c.give.ensures)
    (book-there c.self.inside.joined c.self.inside.viewers.items c.args.self.now c.args.viewer c.place-place.result (moved_to c.args.stamp) c.index_mut.result.now (λ v. refl) c.self.view_is c.self.invariant c.place-place.ensures c.index_mut.ensures.value)

pub returns : goal.returns
returns c =
    let book : Viewer → BookState = λ v. record { joined = c.self.inside.joined; viewers = set c.self.inside.viewers.items c.place-place.result v } in
    ap book c.give.ensures ∙ changed-there c.self.inside.joined c.self.inside.viewers.items c.args.self.now c.args.viewer c.place-place.result (moved_to c.args.stamp) c.index_mut.result.now c.self.view_is c.self.invariant c.place-place.ensures c.index_mut.ensures.value
