use Rattle.viewer_acts.proofs.Doings.{refused_run, wrote_run}
use Rattle.viewer_acts.proofs.writing.write.Goals as goal

pub returns-in-Ok-clause-wrote : goal.returns-in-Ok-clause-wrote
returns-in-Ok-clause-wrote g c = wrote_run c.args.pass.now.viewer c.args.pass.now.view c.write.new.self.view c.args.acts.now c.in-Ok.field-0 c.in-Ok.ensures.called c.in-Ok.ensures.own

pub returns-in-Err-clause-wrote : goal.returns-in-Err-clause-wrote
returns-in-Err-clause-wrote g c = refused_run c.args.pass.now.viewer c.args.pass.now.view c.write.new.self.view c.args.acts.now c.in-Err.refusal c.in-Err.ensures.called
