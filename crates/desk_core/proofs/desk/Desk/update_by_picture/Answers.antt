use Rattle.std.proofs.Common.{◌≡◌, ◌++◌, List, ◌∙◌, ap, sym, subst, false}
use Rattle.gate_model.specs.declared.instr.Instr.{Instr}
use Rattle.gate_model.specs.text.Text.{texts}
use Rattle.display_history.specs.Keeping.{covers}
use Rattle.desk_core.specs.Desk.{DeskState, Stands}
use Rattle.desk_core.specs.Farewell.{farewell_of}
use Rattle.desk_core.specs.State.{state}
use Rattle.desk_core.proofs.Telling.{shut_is}
use Rattle.desk_core.proofs.Updating.{picture_brings, picture_given}
use Rattle.desk_core.proofs.desk.Desk.update_by_picture.Goals as goal

pub returns-clause-brings : goal.returns-clause-brings
returns-clause-brings c = λ h v stood at.
    let d = state c.self.inside in
    let s : Stands d h = subst (λ (k : DeskState). Stands k h) (sym c.self.view_is) stood in
    let uncovered : covers d.frames.kept c.args.reached ≡ false = subst (λ (k : DeskState). covers k.frames.kept c.args.reached ≡ false) (sym c.self.view_is) c.requires in
    picture_brings d h v c.args.reached c.in_ok-list.list c.stamp.result c.is_some.result s c.covers_history.ensures at uncovered (c.in_ok-list.ensures h stood) c.stamp.ensures (c.is_some.ensures ∙ shut_is d h s)

pub returns-clause-appended : goal.returns-clause-appended
returns-clause-appended c = λ h v stood at.
    let d = state c.self.inside in
    let s : Stands d h = subst (λ (k : DeskState). Stands k h) (sym c.self.view_is) stood in
    picture_given d h v c.in_ok-list.list c.args.into.now.items c.give_list.new.into.items s (c.in_ok-give_list.ensures.appended ∙ ap (λ (is : List Instr). c.args.into.now.items ++ texts is ++ texts (farewell_of d.cause)) c.as_slice.ensures)
