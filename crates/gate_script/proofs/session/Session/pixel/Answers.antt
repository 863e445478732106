use Rattle.std.proofs.Common.{refl}
use Rattle.script_grammar.specs.declared.line.Line.TheVariants.{Pixel}
use Rattle.gate_model.specs.text.Statuses.{not_found}
use Rattle.gate_script.specs.Told.{pixel_line, refused_line}
use Rattle.gate_script.specs.declared.sight.Sight.TheVariants.{Played}
use Rattle.gate_script.proofs.SessionLaws.{told_alone, pixel_told, no_pixel}
use Rattle.gate_script.proofs.session.Session.pixel.Goals as goal

pub returns-in-Some : goal.returns-in-Some
returns-in-Some c = λ h now at.
    let is = pixel_told now c.args.self.now c.args.reply.now c.args.reply.now h at c.args.viewer c.args.x c.args.y c.in-Some.dot c.deref.result.now c.deref.ensures.value c.in-Some.ensures.there c.in-Some.ensures.dot in
    told_alone Played now c.args.self.now c.args.reply.now c.say_dot.new.self h at (Pixel c.args.viewer c.args.x c.args.y) (pixel_line c.in-Some.dot) c.args.self.now
    (λ answers. record { same = answers.same; answered = is; framed = answers.framed }) refl refl c.say_dot.result c.say_dot.ensures

pub returns-in-None : goal.returns-in-None
returns-in-None c = λ h now at.
    let is = no_pixel now c.args.self.now c.args.reply.now c.args.reply.now h at c.args.viewer c.args.x c.args.y c.deref.result.now c.deref.ensures.value c.in-None.ensures.there in
    told_alone Played now c.args.self.now c.args.reply.now c.refuse.new.self h at (Pixel c.args.viewer c.args.x c.args.y) (refused_line not_found) c.args.self.now
    (λ answers. record { same = answers.same; answered = is; framed = answers.framed }) refl refl c.refuse.result c.refuse.ensures
