use Rattle.std.proofs.Common.{◌≡◌, ◌∙◌, ap, refl, sym, subst}
use Rattle.std.specs.Prelude.{Err}
use Rattle.std.proofs.lemmas.Result.{err_from_is_err_and}
use Rattle.gate_model.specs.declared.event.Event.TheVariants.{Read as read_as}
use Rattle.gate_model.specs.declared.read_refusal.ReadRefusal.TheVariants.{NoViewer}
use Rattle.gate_model.specs.declared.read_refusal.ReadRefusal.{ReadRefusal}
use Rattle.gate_model.specs.text.Statuses.{not_found}
use Rattle.desk_core.specs.Calls.{Ended, read_answer}
use Rattle.desk_core.specs.Desk.{DeskState}
use Rattle.gate_script.specs.declared.halt.Halt.{Halt}
use Rattle.gate_script.specs.declared.halt.Halt.TheVariants.{NoMemory}
use Rattle.gate_script.specs.Told.{refused_line}
use Rattle.gate_script.specs.Calls.{StaysOpen}
use Rattle.gate_script.proofs.OpenLaws.{on_ok, read_open, stays}
use Rattle.gate_script.proofs.SessionLaws.{read_refused, read_done, read_is_worn}
use Rattle.gate_script.proofs.session.Session.read.Goals as goal

pub returns-in_err-play_given-in-Ok-clause-step : goal.returns-in_err-play_given-in-Ok-clause-step
returns-in_err-play_given-in-Ok-clause-step c = λ sight h now at.
    let p = err_from_is_err_and c.from_residual.result c.from_residual.ensures.1 in
    let e : c.from_residual.result ≡ Err NoMemory = p.1 ∙ ap (λ (s : Halt). Err s) p.2 in
    rw e tt

pub returns-in_ok-play_given-in-Ok-clause-step : goal.returns-in_ok-play_given-in-Ok-clause-step
returns-in_ok-play_given-in-Ok-clause-step c = λ sight h now at.
    read_done sight now c.args.self.now c.args.reply.now c.say_read.new.self h at c.args.viewer c.in-Ok.answer
    record { desk = c.read.new.self; canvases = c.args.self.now.canvases; given = c.read.new.into } c.play_given.new.self c.clear.new.self.items c.deref.result.now
    (record {
      none = c.clear.ensures.items;
      ends = c.in-Ok.ensures.step h at.stands;
      unchanged = c.in-Ok.ensures.unchanged;
      buffer = c.in-Ok.ensures.buffer;
      played = c.in_ok-play_given-in-Ok.ensures.plays;
      desk_is = c.in_ok-play_given-in-Ok.ensures.desk;
      same_text = c.in_ok-play_given-in-Ok.ensures.given;
    })
    c.deref.ensures.value c.say_read.result c.say_read.ensures

pub returns-in_ok-play_given-in-Ok-clause-open : goal.returns-in_ok-play_given-in-Ok-clause-open
returns-in_ok-play_given-in-Ok-clause-open c = on_ok c.say_read.result (StaysOpen 0 c.args.self.now.desk c.play_given.new.self.desk) (λ o.
    subst (λ (d : DeskState). StaysOpen 0 c.args.self.now.desk d) (sym c.in_ok-play_given-in-Ok.ensures.desk)
    (λ o. read_open c.args.self.now.desk c.read.new.self o c.args.viewer c.in-Ok.answer c.clear.new.self.items c.read.new.into.items c.in-Ok.ensures.step c.in-Ok.ensures.unchanged) o)

pub returns-in-Err-NoViewer-clause-step : goal.returns-in-Err-NoViewer-clause-step
returns-in-Err-NoViewer-clause-step c = λ sight h now at.
    read_refused sight now c.args.self.now c.args.reply.now c.refuse.new.self h at c.args.viewer NoViewer (refused_line not_found)
    record { desk = c.read.new.self; canvases = c.args.self.now.canvases; given = c.read.new.into } c.clear.new.self.items c.read.new.into.items
    (subst (λ (e : ReadRefusal). Ended h (read_as c.args.viewer) (read_answer (Err e)) c.args.self.now.desk c.read.new.self c.clear.new.self.items c.read.new.into.items) c.in-Err-NoViewer.field-0-is (c.in-Err-NoViewer.ensures.step h at.stands)) refl c.in-Err-NoViewer.ensures.unchanged refl c.refuse.result c.refuse.ensures

pub returns-in-Err-NoViewer-clause-open : goal.returns-in-Err-NoViewer-clause-open
returns-in-Err-NoViewer-clause-open c = stays c.refuse.result c.args.self.now.desk c.read.new.self c.in-Err-NoViewer.ensures.unchanged

pub returns-in-Err-Worn-clause-step : goal.returns-in-Err-Worn-clause-step
returns-in-Err-Worn-clause-step c = λ sight h now at.
    read_is_worn sight now c.args.self.now c.args.reply.now c.args.reply.now h at c.args.viewer c.in-Err-Worn.entries c.read.new.self c.clear.new.self.items c.read.new.into.items (subst (λ (e : ReadRefusal). Ended h (read_as c.args.viewer) (read_answer (Err e)) c.args.self.now.desk c.read.new.self c.clear.new.self.items c.read.new.into.items) c.in-Err-Worn.field-0-is (c.in-Err-Worn.ensures.step h at.stands))
