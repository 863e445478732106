use Rattle.std.proofs.Common.{◌≡◌, ◌∙◌, refl, sym, subst, true}
use Rattle.display_history.specs.Keeping.{covers}
use Rattle.desk_core.specs.Desk.{DeskState, Stands}
use Rattle.desk_core.specs.State.{state}
use Rattle.desk_core.proofs.Telling.{shut_is}
use Rattle.desk_core.proofs.Updating.{frames_bring, frames_given}
use Rattle.desk_core.proofs.desk.Desk.update_by_frames.Goals as goal

pub returns-clause-brings : goal.returns-clause-brings
returns-clause-brings c = λ h v stood at.
    let d = state c.self.inside in
    let s : Stands d h = subst (λ (k : DeskState). Stands k h) (sym c.self.view_is) stood in
    let covered : covers d.frames.kept c.args.reached ≡ true = subst (λ (k : DeskState). covers k.frames.kept c.args.reached ≡ true) (sym c.self.view_is) c.requires in
    frames_bring d h v c.args.reached c.after-frames.result.now s c.texts_are_kept.ensures.after at c.after-frames.ensures.frames c.covers_history.ensures covered _ c.stamp.result c.is_some.result refl c.stamp.ensures (c.is_some.ensures ∙ shut_is d h s)

pub returns-clause-appended : goal.returns-clause-appended
returns-clause-appended c = λ h v stood at.
    let d = state c.self.inside in
    let s : Stands d h = subst (λ (k : DeskState). Stands k h) (sym c.self.view_is) stood in
    frames_given d h v c.args.reached c.after-frames.result.now s c.texts_are_kept.ensures.after at c.after-frames.ensures.frames c.args.into.now.items c.give_frames.new.into.items c.in_ok-give_frames.ensures.appended
