use Rattle.gate_outside.proofs.Moved.{came-front}
use Rattle.gate_outside.proofs.again.AgainSource.read.Goals as goal

pub returns-clause-ok : goal.returns-clause-ok
returns-clause-ok g c = came-front c.args.self.now.at c.copy_front-n.result c.args.self.now.first c.as_slice.result.now c.copy_front-n.new.into _ c.as_slice.ensures c.copy_front-n.ensures.copied
