use Rattle.std.proofs.Common.{refl}
use Rattle.gate_script.proofs.SessionLaws.{session_ended, close_refused}
use Rattle.gate_script.proofs.session.Session.close.Goals as goal

pub returns-in-Ok : goal.returns-in-Ok
returns-in-Ok c = λ sight h now at.
    session_ended sight now c.args.self.now c.args.reply.now c.say.new.self h at c.in-Ok.field-0
    record { desk = c.close.new.self; canvases = c.args.self.now.canvases; given = c.args.self.now.given } (c.in-Ok.ensures.step h at.stands) refl
    c.say.result c.say.ensures

pub returns-in-Err : goal.returns-in-Err
returns-in-Err c = λ sight h now at.
    close_refused sight now c.args.self.now c.args.reply.now c.refuse.new.self h at c.in-Err.field-0
    record { desk = c.close.new.self; canvases = c.args.self.now.canvases; given = c.args.self.now.given } (c.in-Err.ensures.step h at.stands) c.in-Err.ensures.unchanged refl
    c.refuse.result c.refuse.ensures
