use Rattle.std.proofs.Common.{[], refl, subst}
use Rattle.std.specs.Prelude.{Err}
use Rattle.gate_model.specs.declared.write_refusal.WriteRefusal.{WriteRefusal}
use Rattle.gate_model.specs.declared.write_refusal.WriteRefusal.TheVariants.{NoViewer, Closed}
use Rattle.gate_model.specs.declared.event.Event.TheVariants.{Write as write_acts}
use Rattle.gate_model.specs.text.Statuses.{not_found, session_closed}
use Rattle.desk_core.specs.Calls.{Ended, write_answer}
use Rattle.gate_script.specs.Told.{refused_line}
use Rattle.gate_script.specs.Calls.{StaysOpen}
use Rattle.gate_script.proofs.OpenLaws.{on_ok, written_open, stays}
use Rattle.gate_script.proofs.SessionLaws.{acts_written, acts_refused, acts_are_worn}
use Rattle.gate_script.proofs.session.Session.write_acts.Goals as goal

pub returns-in-Ok-clause-step : goal.returns-in-Ok-clause-step
returns-in-Ok-clause-step c = λ sight h now at.
    acts_written sight now c.args.self.now c.args.reply.now c.say.new.self h at c.args.viewer c.args.acts.now c.args.passed c.in-Ok.field-0
    record { desk = c.write.new.self; canvases = c.args.self.now.canvases; given = c.args.self.now.given } (c.in-Ok.ensures.step h at.stands) refl
    c.from.result c.from-in-Ok.result c.from-in-Ok-2.result c.from.ensures c.from-in-Ok.ensures c.from-in-Ok-2.ensures c.say.result c.say.ensures

pub returns-in-Ok-clause-open : goal.returns-in-Ok-clause-open
returns-in-Ok-clause-open c = on_ok c.say.result (StaysOpen 0 c.args.self.now.desk c.write.new.self) (λ o. written_open c.args.self.now.desk c.write.new.self o c.args.viewer c.args.acts.now c.in-Ok.field-0 c.in-Ok.ensures.step c.in-Ok.ensures.few)

pub returns-in-Err-NoViewer-clause-step : goal.returns-in-Err-NoViewer-clause-step
returns-in-Err-NoViewer-clause-step c = λ sight h now at.
    acts_refused sight now c.args.self.now c.args.reply.now c.refuse.new.self h at c.args.viewer c.args.acts.now c.args.passed NoViewer (refused_line not_found)
    record { desk = c.write.new.self; canvases = c.args.self.now.canvases; given = c.args.self.now.given }
    (subst (λ (e : WriteRefusal). Ended h (write_acts c.args.viewer c.args.acts.now) (write_answer (Err e)) c.args.self.now.desk c.write.new.self [] []) c.in-Err-NoViewer.field-0-is (c.in-Err-NoViewer.ensures.step h at.stands)) refl c.in-Err-NoViewer.ensures.unchanged refl
    c.refuse.result c.refuse.ensures

pub returns-in-Err-NoViewer-clause-open : goal.returns-in-Err-NoViewer-clause-open
returns-in-Err-NoViewer-clause-open c = stays c.refuse.result c.args.self.now.desk c.write.new.self c.in-Err-NoViewer.ensures.unchanged

pub returns-in-Err-Closed-clause-step : goal.returns-in-Err-Closed-clause-step
returns-in-Err-Closed-clause-step c = λ sight h now at.
    acts_refused sight now c.args.self.now c.args.reply.now c.refuse-in-Err-Closed.new.self h at c.args.viewer c.args.acts.now c.args.passed (Closed c.in-Err-Closed.field-0-0) (refused_line session_closed)
    record { desk = c.write.new.self; canvases = c.args.self.now.canvases; given = c.args.self.now.given }
    (subst (λ (e : WriteRefusal). Ended h (write_acts c.args.viewer c.args.acts.now) (write_answer (Err e)) c.args.self.now.desk c.write.new.self [] []) c.in-Err-Closed.field-0-is (c.in-Err-Closed.ensures.step h at.stands)) refl c.in-Err-Closed.ensures.unchanged refl
    c.refuse-in-Err-Closed.result c.refuse-in-Err-Closed.ensures

pub returns-in-Err-Closed-clause-open : goal.returns-in-Err-Closed-clause-open
returns-in-Err-Closed-clause-open c = stays c.refuse-in-Err-Closed.result c.args.self.now.desk c.write.new.self c.in-Err-Closed.ensures.unchanged

pub returns-in-Err-Worn-clause-step : goal.returns-in-Err-Worn-clause-step
returns-in-Err-Worn-clause-step c = λ sight h now at.
    acts_are_worn sight now c.args.self.now c.args.reply.now c.args.reply.now h at c.args.viewer c.args.acts.now c.in-Err-Worn.entries c.write.new.self
    (subst (λ (e : WriteRefusal). Ended h (write_acts c.args.viewer c.args.acts.now) (write_answer (Err e)) c.args.self.now.desk c.write.new.self [] []) c.in-Err-Worn.field-0-is (c.in-Err-Worn.ensures.step h at.stands))
