use Rattle.std.proofs.Common.{rules, ◌≡◌, List, ◌∙◌, ap, sym, subst}
use Rattle.std.specs.Prelude.{filter}
use Rattle.std.proofs.lemmas.Fn.{filter_same}
use Rattle.viewer_book.specs.declared.viewer.Viewer.{Viewer}
use Rattle.viewer_book.specs.Book.{BookState, IsBook, removed}
use Rattle.viewer_book.proofs.Lists.{is_other}
use Rattle.viewer_book.proofs.Books.{removes-one}
use Rattle.viewer_book.proofs.book.Book.remove.Goals as goal

pub invariant_of-self : goal.invariant_of-self
invariant_of-self c =
    let left : c.retain.new.self.items ≡ filter (is_other c.args.viewer) c.self.inside.viewers.items = filter_same _ _ _ (λ x b f' k. search rules) _ _ c.retain.ensures.filtered in
    subst (λ (l : List Viewer). IsBook record { joined = c.self.inside.joined; viewers = l }) (sym left) (removes-one record { joined = c.self.inside.joined; viewers = c.self.inside.viewers.items } c.args.viewer c.self.invariant).book

pub returns : goal.returns
returns c =
    let left : c.retain.new.self.items ≡ filter (is_other c.args.viewer) c.self.inside.viewers.items = filter_same _ _ _ (λ x b f' k. search rules) _ _ c.retain.ensures.filtered in
    ap (λ (l : List Viewer). record { joined = c.self.inside.joined; viewers = l }) left ∙ ap (λ (b : BookState). removed b c.args.viewer) c.self.view_is
