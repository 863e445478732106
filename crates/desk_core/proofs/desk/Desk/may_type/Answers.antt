use Rattle.std.proofs.Common.{◌≡◌, true, sym, subst}
use Rattle.viewer_book.specs.Book as book
use Rattle.desk_core.specs.Desk.{DeskState, Stands}
use Rattle.desk_core.specs.State.{state}
use Rattle.desk_core.proofs.Telling.{role_is, may_is}
use Rattle.desk_core.proofs.desk.Desk.may_type.Goals as goal

pub returns : goal.returns
returns c = λ h stood stays.
    let d = state c.self.inside in
    let s : Stands d h = subst (λ (k : DeskState). Stands k h) (sym c.self.view_is) stood in
    let there : book.is_live d.book c.args.viewer ≡ true = subst (λ (k : DeskState). book.is_live k.book c.args.viewer ≡ true) (sym c.self.view_is) c.requires in
    may_is d h c.args.viewer s there stays c.role.result c.types.result (role_is d h c.args.viewer s there c.role.result c.role.ensures) c.types.ensures
