use Rattle.std.proofs.Common.{◌∷◌, [], ap}
use Rattle.gate_model.specs.declared.act.Act.TheVariants.{Sync as act_sync}
use Rattle.gate_script.proofs.SessionLaws.{acknowledges}
use Rattle.gate_script.proofs.session.Session.acknowledge.Goals as goal

pub returns-clause-step : goal.returns-clause-step
returns-clause-step c = λ sight h now at.
    acknowledges sight now c.args.self.now c.args.reply.now c.write_acts.new.reply h at c.args.viewer (act_sync c.stamp.result ∷ []) (ap (λ t. act_sync t ∷ []) (c.stamp.ensures h at.stands)) c.write_acts.new.self c.write_acts.result (c.write_acts.ensures.step sight h now at)
