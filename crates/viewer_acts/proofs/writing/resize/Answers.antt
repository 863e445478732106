use Rattle.viewer_acts.proofs.Doings.{refused_as, sized_part}
use Rattle.viewer_acts.proofs.writing.resize.Goals as goal

pub returns-in-Ok-clause-sized : goal.returns-in-Ok-clause-sized
returns-in-Ok-clause-sized g c = sized_part c.args.pass.now.viewer c.columns_of.result c.rows_of.result c.args.size c.columns_of.ensures.exact c.rows_of.ensures.exact c.args.pass.now.view c.resize.new.self.view c.in-Ok.field-0 c.in-Ok.ensures.called c.in-Ok.ensures.own

pub returns-in-Err-clause-sized : goal.returns-in-Err-clause-sized
returns-in-Err-clause-sized g c = refused_as c.args.pass.now.viewer c.columns_of.result c.rows_of.result c.args.size c.columns_of.ensures.exact c.rows_of.ensures.exact c.args.pass.now.view c.resize.new.self.view c.in-Err.refusal c.passed_over.result c.passed_over.ensures c.in-Err.ensures.called
