use Rattle.std.proofs.Common.{◌≡◌, true, sym, subst}
use Rattle.viewer_book.specs.Book as book
use Rattle.desk_core.specs.Desk.{DeskState, Stands}
use Rattle.desk_core.specs.State.{state}
use Rattle.desk_core.proofs.Results.{if_ok_both}
use Rattle.desk_core.proofs.Telling.{mods_is}
use Rattle.desk_core.proofs.Following.{types_of}
use Rattle.desk_core.proofs.desk.Desk.typed.Goals as goal

pub returns : goal.returns
returns c = λ h stood is_may.
    let d = state c.self.inside in
    let s : Stands d h = subst (λ (k : DeskState). Stands k h) (sym c.self.view_is) stood in
    let there : book.is_live d.book c.args.viewer ≡ true = subst (λ (k : DeskState). book.is_live k.book c.args.viewer ≡ true) (sym c.self.view_is) c.requires in
    if_ok_both c.typed_by.result _ _ _ (λ t bytes held. types_of d h c.args.viewer c.args.acts.now t c.args.may_type c.mods-held.result c.cursor_mode-cursor_mode.result s is_may (mods_is d h c.args.viewer s there c.mods-held.result c.mods-held.ensures) c.cursor_mode-cursor_mode.ensures bytes held) c.typed_by.ensures.bytes c.typed_by.ensures.held
