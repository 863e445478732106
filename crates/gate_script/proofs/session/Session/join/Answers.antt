use Rattle.std.proofs.Common.{ℕ, ◌≡◌, ◌∷◌, [], ◌∙◌, ap, subst, refl, sym}
use Rattle.std.specs.Prelude.{Err, codes}
use Rattle.std.proofs.lemmas.Result.{err_from_is_err_and}
use Rattle.gate_model.specs.declared.event.Event.TheVariants.{Join as join_in}
use Rattle.gate_model.specs.declared.join_refusal.JoinRefusal.TheVariants.{Closed, Forbidden, TooMany}
use Rattle.gate_model.specs.declared.join_refusal.JoinRefusal.{JoinRefusal}
use Rattle.gate_model.specs.text.Statuses.{session_closed, forbidden, too_many}
use Rattle.desk_core.specs.Calls.{Ended, join_answer}
use Rattle.desk_core.specs.Desk.{DeskState}
use Rattle.gate_script.specs.declared.halt.Halt.{Halt}
use Rattle.gate_script.specs.declared.halt.Halt.TheVariants.{NoMemory}
use Rattle.gate_script.specs.declared.session.Session.{Session}
use Rattle.gate_script.specs.Told.{answer_line, frames_line, refused_line}
use Rattle.gate_script.specs.Calls.{Adds, StaysOpen}
use Rattle.gate_script.proofs.OpenLaws.{on_ok, joined_open, stays}
use Rattle.gate_script.proofs.SessionLaws.{join_refused, viewer_joined, join_is_worn}
use Rattle.gate_script.proofs.session.Session.join.Goals as goal

pub returns-in_err-add_canvas-in-Ok-clause-step : goal.returns-in_err-add_canvas-in-Ok-clause-step
returns-in_err-add_canvas-in-Ok-clause-step c = λ h now at.
    let p = err_from_is_err_and c.from_residual.result c.from_residual.ensures.1 in
    let e : c.from_residual.result ≡ Err NoMemory = p.1 ∙ ap (λ (s : Halt). Err s) p.2 in
    rw e tt

pub returns-in_ok-add_canvas-in-Ok-clause-step : goal.returns-in_ok-add_canvas-in-Ok-clause-step
returns-in_ok-add_canvas-in-Ok-clause-step c = λ h now at.
    let joined = c.in-Ok.joined in
    let b : Session = record { desk = c.join.new.self; canvases = c.args.self.now.canvases; given = c.join.new.into } in
    viewer_joined c.args.sight now c.args.self.now c.args.reply.now c.report.new.self h at c.args.asked joined b c.add_canvas.new.self c.clear.new.self.items c.deref.result.now
    (record {
      none = c.clear.ensures.items;
      ends = c.in-Ok.ensures.step h at.stands;
      adds_canvas = c.in_ok-add_canvas-in-Ok.ensures.adds;
      desk_is = c.in_ok-add_canvas-in-Ok.ensures.desk;
      same_text = c.in_ok-add_canvas-in-Ok.ensures.given;
    })
    c.deref.ensures.value c.report.result
    (subst (λ (v : ℕ). Adds c.report.result c.args.reply.now c.report.new.self (answer_line (codes "joined") (v ∷ joined.stamp ∷ [])) (frames_line joined.viewer c.deref.result.now)) c.from.ensures c.report.ensures)

pub returns-in_ok-add_canvas-in-Ok-clause-open : goal.returns-in_ok-add_canvas-in-Ok-clause-open
returns-in_ok-add_canvas-in-Ok-clause-open c = on_ok c.report.result (StaysOpen 0 c.args.self.now.desk c.add_canvas.new.self.desk) (λ o.
    subst (λ (d : DeskState). StaysOpen 0 c.args.self.now.desk d) (sym c.in_ok-add_canvas-in-Ok.ensures.desk)
    (λ o. joined_open c.args.self.now.desk c.join.new.self o c.args.asked c.in-Ok.joined c.clear.new.self.items c.join.new.into.items c.in-Ok.ensures.step c.in-Ok.ensures.few) o)

pub returns-in-Err-Closed-clause-step : goal.returns-in-Err-Closed-clause-step
returns-in-Err-Closed-clause-step c = λ h now at.
    let step = subst (λ (e : JoinRefusal). Ended h (join_in c.args.asked) (join_answer (Err e)) c.args.self.now.desk c.join.new.self c.clear.new.self.items c.join.new.into.items) c.in-Err-Closed.field-0-is (c.in-Err-Closed.ensures.step h at.stands) in
    join_refused c.args.sight now c.args.self.now c.args.reply.now c.refuse.new.self h at c.args.asked (Closed c.in-Err-Closed.field-0-0) (refused_line session_closed)
    record { desk = c.join.new.self; canvases = c.args.self.now.canvases; given = c.join.new.into } c.clear.new.self.items c.join.new.into.items step refl c.in-Err-Closed.ensures.unchanged refl c.refuse.result c.refuse.ensures

pub returns-in-Err-Closed-clause-open : goal.returns-in-Err-Closed-clause-open
returns-in-Err-Closed-clause-open c = stays c.refuse.result c.args.self.now.desk c.join.new.self c.in-Err-Closed.ensures.unchanged

pub returns-in-Err-Forbidden-clause-step : goal.returns-in-Err-Forbidden-clause-step
returns-in-Err-Forbidden-clause-step c = λ h now at.
    let step = subst (λ (e : JoinRefusal). Ended h (join_in c.args.asked) (join_answer (Err e)) c.args.self.now.desk c.join.new.self c.clear.new.self.items c.join.new.into.items) c.in-Err-Forbidden.field-0-is (c.in-Err-Forbidden.ensures.step h at.stands) in
    join_refused c.args.sight now c.args.self.now c.args.reply.now c.refuse-in-Err-Forbidden.new.self h at c.args.asked Forbidden (refused_line forbidden)
    record { desk = c.join.new.self; canvases = c.args.self.now.canvases; given = c.join.new.into } c.clear.new.self.items c.join.new.into.items step refl c.in-Err-Forbidden.ensures.unchanged refl c.refuse-in-Err-Forbidden.result c.refuse-in-Err-Forbidden.ensures

pub returns-in-Err-Forbidden-clause-open : goal.returns-in-Err-Forbidden-clause-open
returns-in-Err-Forbidden-clause-open c = stays c.refuse-in-Err-Forbidden.result c.args.self.now.desk c.join.new.self c.in-Err-Forbidden.ensures.unchanged

pub returns-in-Err-TooMany-clause-step : goal.returns-in-Err-TooMany-clause-step
returns-in-Err-TooMany-clause-step c = λ h now at.
    let step = subst (λ (e : JoinRefusal). Ended h (join_in c.args.asked) (join_answer (Err e)) c.args.self.now.desk c.join.new.self c.clear.new.self.items c.join.new.into.items) c.in-Err-TooMany.field-0-is (c.in-Err-TooMany.ensures.step h at.stands) in
    join_refused c.args.sight now c.args.self.now c.args.reply.now c.refuse-in-Err-TooMany.new.self h at c.args.asked (TooMany c.in-Err-TooMany.field-0-0 c.in-Err-TooMany.field-0-1) (refused_line too_many)
    record { desk = c.join.new.self; canvases = c.args.self.now.canvases; given = c.join.new.into } c.clear.new.self.items c.join.new.into.items step refl c.in-Err-TooMany.ensures.unchanged refl c.refuse-in-Err-TooMany.result c.refuse-in-Err-TooMany.ensures

pub returns-in-Err-TooMany-clause-open : goal.returns-in-Err-TooMany-clause-open
returns-in-Err-TooMany-clause-open c = stays c.refuse-in-Err-TooMany.result c.args.self.now.desk c.join.new.self c.in-Err-TooMany.ensures.unchanged

pub returns-in-Err-Worn-clause-step : goal.returns-in-Err-Worn-clause-step
returns-in-Err-Worn-clause-step c = λ h now at.
    rw c.in-Err-Worn.field-0-is (join_is_worn c.args.sight now c.args.self.now c.args.reply.now c.args.reply.now h at c.args.asked c.in-Err-Worn.entries c.join.new.self c.clear.new.self.items c.join.new.into.items (subst (λ (e : JoinRefusal). Ended h (join_in c.args.asked) (join_answer (Err e)) c.args.self.now.desk c.join.new.self c.clear.new.self.items c.join.new.into.items) c.in-Err-Worn.field-0-is (c.in-Err-Worn.ensures.step h at.stands)))
