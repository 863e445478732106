use Rattle.std.proofs.Common.{[], refl, subst}
use Rattle.std.specs.Prelude.{Err, codes}
use Rattle.gate_model.specs.declared.resize_refusal.ResizeRefusal.{ResizeRefusal}
use Rattle.gate_model.specs.declared.resize_refusal.ResizeRefusal.TheVariants.{NoViewer, Closed, Denied, Same}
use Rattle.gate_model.specs.declared.event.Event.TheVariants.{Resize as resize_to}
use Rattle.gate_model.specs.text.Statuses.{not_found, session_closed}
use Rattle.desk_core.specs.Calls.{Ended, resize_answer}
use Rattle.gate_script.specs.Told.{answer_line, refused_line}
use Rattle.gate_script.proofs.SessionLaws.{screen_sized, size_refused, size_is_worn}
use Rattle.gate_script.proofs.session.Session.resize.Goals as goal

pub returns-in-Ok : goal.returns-in-Ok
returns-in-Ok c = λ sight h now at.
    screen_sized sight now c.args.self.now c.args.reply.now c.report.new.self h at c.args.viewer c.args.size c.in-Ok.stamp
    record { desk = c.resize.new.self; canvases = c.args.self.now.canvases; given = c.args.self.now.given } (c.in-Ok.ensures.step h at.stands) refl c.newest_frame.result.now c.newest_frame.ensures
    c.report.result c.report.ensures

pub returns-in-Err-NoViewer : goal.returns-in-Err-NoViewer
returns-in-Err-NoViewer c = λ sight h now at.
    size_refused sight now c.args.self.now c.args.reply.now c.refuse.new.self h at c.args.viewer c.args.size NoViewer (refused_line not_found)
    record { desk = c.resize.new.self; canvases = c.args.self.now.canvases; given = c.args.self.now.given }
    (subst (λ (e : ResizeRefusal). Ended h (resize_to c.args.viewer c.args.size.cols c.args.size.rows) (resize_answer (Err e)) c.args.self.now.desk c.resize.new.self [] []) c.in-Err-NoViewer.field-0-is (c.in-Err-NoViewer.ensures.step h at.stands)) refl c.in-Err-NoViewer.ensures.unchanged refl
    c.refuse.result c.refuse.ensures

pub returns-in-Err-Closed : goal.returns-in-Err-Closed
returns-in-Err-Closed c = λ sight h now at.
    size_refused sight now c.args.self.now c.args.reply.now c.refuse-in-Err-Closed.new.self h at c.args.viewer c.args.size (Closed c.in-Err-Closed.field-0-0) (refused_line session_closed)
    record { desk = c.resize.new.self; canvases = c.args.self.now.canvases; given = c.args.self.now.given }
    (subst (λ (e : ResizeRefusal). Ended h (resize_to c.args.viewer c.args.size.cols c.args.size.rows) (resize_answer (Err e)) c.args.self.now.desk c.resize.new.self [] []) c.in-Err-Closed.field-0-is (c.in-Err-Closed.ensures.step h at.stands)) refl c.in-Err-Closed.ensures.unchanged refl
    c.refuse-in-Err-Closed.result c.refuse-in-Err-Closed.ensures

pub returns-in-Err-Denied : goal.returns-in-Err-Denied
returns-in-Err-Denied c = λ sight h now at.
    size_refused sight now c.args.self.now c.args.reply.now c.say.new.self h at c.args.viewer c.args.size Denied (answer_line (codes "denied") [])
    record { desk = c.resize.new.self; canvases = c.args.self.now.canvases; given = c.args.self.now.given }
    (subst (λ (e : ResizeRefusal). Ended h (resize_to c.args.viewer c.args.size.cols c.args.size.rows) (resize_answer (Err e)) c.args.self.now.desk c.resize.new.self [] []) c.in-Err-Denied.field-0-is (c.in-Err-Denied.ensures.step h at.stands)) refl c.in-Err-Denied.ensures.unchanged refl
    c.say.result c.say.ensures

pub returns-in-Err-Same : goal.returns-in-Err-Same
returns-in-Err-Same c = λ sight h now at.
    size_refused sight now c.args.self.now c.args.reply.now c.say-in-Err-Same.new.self h at c.args.viewer c.args.size Same (answer_line (codes "unchanged") [])
    record { desk = c.resize.new.self; canvases = c.args.self.now.canvases; given = c.args.self.now.given }
    (subst (λ (e : ResizeRefusal). Ended h (resize_to c.args.viewer c.args.size.cols c.args.size.rows) (resize_answer (Err e)) c.args.self.now.desk c.resize.new.self [] []) c.in-Err-Same.field-0-is (c.in-Err-Same.ensures.step h at.stands)) refl c.in-Err-Same.ensures.unchanged refl
    c.say-in-Err-Same.result c.say-in-Err-Same.ensures

pub returns-in-Err-Worn : goal.returns-in-Err-Worn
returns-in-Err-Worn c = λ sight h now at.
    size_is_worn sight now c.args.self.now c.args.reply.now c.args.reply.now h at c.args.viewer c.args.size c.in-Err-Worn.entries c.resize.new.self
    (subst (λ (e : ResizeRefusal). Ended h (resize_to c.args.viewer c.args.size.cols c.args.size.rows) (resize_answer (Err e)) c.args.self.now.desk c.resize.new.self [] []) c.in-Err-Worn.field-0-is (c.in-Err-Worn.ensures.step h at.stands))
