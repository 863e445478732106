use Rattle.std.proofs.Common.{ℕ, [], ◌∷◌, refl, subst}
use Rattle.std.specs.Prelude.{codes}
use Rattle.gate_script.specs.Told.{answer_line}
use Rattle.gate_script.specs.Calls.{Adds}
use Rattle.gate_script.proofs.SessionLaws.{viewer_left, leave_refused}
use Rattle.gate_script.proofs.session.Session.leave.Goals as goal

pub returns-in-Ok : goal.returns-in-Ok
returns-in-Ok c = λ sight h now at.
    viewer_left sight now c.args.self.now c.args.reply.now c.say.new.self h at c.args.viewer c.in-Ok.field-0
    record { desk = c.leave.new.self; canvases = c.drop_canvas.new.self.canvases; given = c.drop_canvas.new.self.given }
    c.drop_canvas.new.self (c.in-Ok.ensures.step h at.stands) c.drop_canvas.ensures.gone c.drop_canvas.ensures.desk refl
    c.say.result (subst (λ (n : ℕ). Adds c.say.result c.args.reply.now c.say.new.self (answer_line (codes "left") (n ∷ [])) []) c.from.ensures c.say.ensures)

pub returns-in-Err : goal.returns-in-Err
returns-in-Err c = λ sight h now at.
    leave_refused sight now c.args.self.now c.args.reply.now c.refuse.new.self h at c.args.viewer c.in-Err.field-0
    record { desk = c.leave.new.self; canvases = c.args.self.now.canvases; given = c.args.self.now.given } (c.in-Err.ensures.step h at.stands) c.in-Err.ensures.unchanged refl
    c.refuse.result c.refuse.ensures
