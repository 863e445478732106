use Rattle.std.proofs.Common.{◌≡◌, true, sym, subst}
use Rattle.viewer_book.specs.Book.{is_live}
use Rattle.desk_core.specs.Desk.{DeskState, Stands}
use Rattle.desk_core.specs.State.{state}
use Rattle.desk_core.proofs.Telling.{position_is}
use Rattle.desk_core.proofs.desk.Desk.update.Goals as goal

pub returns-then-covers-clause-brings : goal.returns-then-covers-clause-brings
returns-then-covers-clause-brings c = λ h stood.
    let d = state c.self.inside in
    let s : Stands d h = subst (λ (k : DeskState). Stands k h) (sym c.self.view_is) stood in
    let there : is_live d.book c.args.viewer ≡ true = subst (λ (k : DeskState). is_live k.book c.args.viewer ≡ true) (sym c.self.view_is) c.requires in
    c.update_by_frames.ensures.brings h c.args.viewer stood (sym (position_is d h c.args.viewer s there c.position-reached.result c.position-reached.ensures))

pub returns-then-covers-clause-appended : goal.returns-then-covers-clause-appended
returns-then-covers-clause-appended c = λ h stood.
    let d = state c.self.inside in
    let s : Stands d h = subst (λ (k : DeskState). Stands k h) (sym c.self.view_is) stood in
    let there : is_live d.book c.args.viewer ≡ true = subst (λ (k : DeskState). is_live k.book c.args.viewer ≡ true) (sym c.self.view_is) c.requires in
    c.update_by_frames.ensures.appended h c.args.viewer stood (sym (position_is d h c.args.viewer s there c.position-reached.result c.position-reached.ensures))

pub returns-else-covers-clause-brings : goal.returns-else-covers-clause-brings
returns-else-covers-clause-brings c = λ h stood.
    let d = state c.self.inside in
    let s : Stands d h = subst (λ (k : DeskState). Stands k h) (sym c.self.view_is) stood in
    let there : is_live d.book c.args.viewer ≡ true = subst (λ (k : DeskState). is_live k.book c.args.viewer ≡ true) (sym c.self.view_is) c.requires in
    c.update_by_picture.ensures.brings h c.args.viewer stood (sym (position_is d h c.args.viewer s there c.position-reached.result c.position-reached.ensures))

pub returns-else-covers-clause-appended : goal.returns-else-covers-clause-appended
returns-else-covers-clause-appended c = λ h stood.
    let d = state c.self.inside in
    let s : Stands d h = subst (λ (k : DeskState). Stands k h) (sym c.self.view_is) stood in
    let there : is_live d.book c.args.viewer ≡ true = subst (λ (k : DeskState). is_live k.book c.args.viewer ≡ true) (sym c.self.view_is) c.requires in
    c.update_by_picture.ensures.appended h c.args.viewer stood (sym (position_is d h c.args.viewer s there c.position-reached.result c.position-reached.ensures))
