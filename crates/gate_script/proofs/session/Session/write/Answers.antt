use Rattle.std.proofs.Common.{◌≡◌, ◌∙◌, List, ap, refl, sym, subst, inr}
use Rattle.std.specs.Prelude.{Err}
use Rattle.std.proofs.lemmas.Result.{err_from_is_err_and}
use Rattle.gate_model.specs.declared.act.Act.{Act}
use Rattle.script_grammar.specs.Acts.{IsReading}
use Rattle.script_grammar.specs.declared.line.Line.TheVariants.{Write}
use Rattle.script_grammar.specs.declared.reading.Reading.{Reading}
use Rattle.script_grammar.specs.declared.reading.Reading.TheVariants.{Whole, Cut, Bad}
use Rattle.gate_script.specs.declared.halt.Halt.{Halt}
use Rattle.gate_script.specs.declared.halt.Halt.TheVariants.{NoMemory}
use Rattle.gate_script.specs.Told.{cut_line, bad_text_line}
use Rattle.gate_script.proofs.SessionLaws.{told_alone, text_ends}
use Rattle.gate_script.proofs.session.Session.write.Goals as goal

pub returns-in_err-acts : goal.returns-in_err-acts
returns-in_err-acts c = λ sight h now at.
    let p = err_from_is_err_and c.from_residual.result c.from_residual.ensures.1 in
    let e : c.from_residual.result ≡ Err NoMemory = p.1 ∙ ap (λ (s : Halt). Err s) p.2 in
    rw e tt

pub returns-in-Whole : goal.returns-in-Whole
returns-in-Whole c = λ sight h now at.
    let reading : IsReading c.args.text.now (Whole c.as_slice.result.now c.in-Whole.passed) = subst (λ (l : List Act). IsReading c.args.text.now (Whole l c.in-Whole.passed)) (sym c.as_slice.ensures) (subst (λ (r : Reading). IsReading c.args.text.now r) c.in-Whole.is c.in_ok-acts.ensures.reading) in
    text_ends sight now c.args.self.now c.args.reply.now c.write_acts.new.reply h at c.args.viewer c.args.text.now c.as_slice.result.now c.in-Whole.passed reading c.write_acts.new.self c.write_acts.result (c.write_acts.ensures.step sight h now at)

pub returns-in-Cut : goal.returns-in-Cut
returns-in-Cut c = λ sight h now at.
    let reading = subst (λ (r : Reading). IsReading c.args.text.now r) c.in-Cut.is c.in_ok-acts.ensures.reading in
    told_alone sight now c.args.self.now c.args.reply.now c.say.new.self h at (Write c.args.viewer c.args.text.now) (cut_line c.in-Cut.place) c.args.self.now
    (λ answers. (Cut c.in-Cut.place, reading, answers)) refl refl c.say.result c.say.ensures

pub returns-in-Bad : goal.returns-in-Bad
returns-in-Bad c = λ sight h now at.
    let reading = subst (λ (r : Reading). IsReading c.args.text.now r) c.in-Bad.is c.in_ok-acts.ensures.reading in
    told_alone sight now c.args.self.now c.args.reply.now c.say_bad.new.self h at (Write c.args.viewer c.args.text.now) (bad_text_line c.in-Bad.at) c.args.self.now
    (λ answers. (Bad c.in-Bad.at, reading, answers)) refl refl c.say_bad.result c.say_bad.ensures

pub returns-in-TooMany : goal.returns-in-TooMany
returns-in-TooMany c = λ sight h now at. inr (subst (λ (r : Reading). IsReading c.args.text.now r) c.in-TooMany.is c.in_ok-acts.ensures.reading)
