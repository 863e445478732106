use Rattle.std.proofs.Common.{refl}
use Rattle.gate_script.proofs.SessionLaws.{all_told}
use Rattle.gate_script.proofs.session.Session.done.Goals as goal

pub returns : goal.returns
returns c = λ sight h now at. all_told sight now c.args.self.now c.args.reply.now c.say.new.self h at c.stamp.result (c.stamp.ensures h at.stands) c.args.self.now refl refl c.say.result c.say.ensures
