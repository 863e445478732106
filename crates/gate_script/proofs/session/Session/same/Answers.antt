use Rattle.std.proofs.Common.{Bool, refl, subst}
use Rattle.std.specs.Prelude.{if◌then◌else◌}
use Rattle.script_grammar.specs.declared.line.Line.TheVariants.{Same}
use Rattle.gate_model.specs.text.Statuses.{not_found}
use Rattle.gate_script.specs.Plays.{Compares}
use Rattle.gate_script.specs.Told.{same_line, differ_line, refused_line}
use Rattle.gate_script.specs.declared.sight.Sight.TheVariants.{Played}
use Rattle.gate_script.proofs.SessionLaws.{told_alone, compared, not_compared}
use Rattle.gate_script.proofs.session.Session.same.Goals as goal

pub returns-in-Some-true : goal.returns-in-Some-true
returns-in-Some-true c = λ h now at.
    let compares = compared now c.args.self.now c.args.reply.now c.args.reply.now h at c.args.one c.args.other c.in-Some-true.field-0 c.deref.result.now c.deref.ensures.value c.in-Some-true.ensures.there c.in-Some-true.ensures.same in
    told_alone Played now c.args.self.now c.args.reply.now c.say.new.self h at (Same c.args.one c.args.other) same_line c.args.self.now
    (λ answers. (same_line, subst (λ (b : Bool). Compares h c.args.one c.args.other (if b then same_line else differ_line)) c.in-Some-true.field-0-test compares, answers)) refl refl c.say.result c.say.ensures

pub returns-in-Some-false : goal.returns-in-Some-false
returns-in-Some-false c = λ h now at.
    let compares = compared now c.args.self.now c.args.reply.now c.args.reply.now h at c.args.one c.args.other c.in-Some-false.field-0 c.deref.result.now c.deref.ensures.value c.in-Some-false.ensures.there c.in-Some-false.ensures.same in
    told_alone Played now c.args.self.now c.args.reply.now c.say-in-Some-false.new.self h at (Same c.args.one c.args.other) differ_line c.args.self.now
    (λ answers. (differ_line, subst (λ (b : Bool). Compares h c.args.one c.args.other (if b then same_line else differ_line)) c.in-Some-false.field-0-test compares, answers)) refl refl c.say-in-Some-false.result c.say-in-Some-false.ensures

pub returns-in-None : goal.returns-in-None
returns-in-None c = λ h now at.
    let compares = not_compared now c.args.self.now c.args.reply.now c.args.reply.now h at c.args.one c.args.other c.deref.result.now c.deref.ensures.value c.in-None.ensures.there in
    told_alone Played now c.args.self.now c.args.reply.now c.refuse.new.self h at (Same c.args.one c.args.other) (refused_line not_found) c.args.self.now
    (λ answers. (refused_line not_found, compares, answers)) refl refl c.refuse.result c.refuse.ensures
