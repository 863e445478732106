use Rattle.gate_script.proofs.SessionLaws.{presses_key}
use Rattle.gate_script.proofs.session.Session.press.Goals as goal

pub returns : goal.returns
returns c = λ sight h now at. presses_key sight now c.args.self.now c.args.reply.now c.write_acts.new.reply h at c.args.viewer c.args.keysym c.write_acts.new.self c.write_acts.result (c.write_acts.ensures.step sight h now at)
