use Rattle.gate_service.proofs.Looks.{gives}
use Rattle.gate_service.proofs.lookahead.LookaheadSource.read.Goals as goal

pub returns-in-Some-clause-ok : goal.returns-in-Some-clause-ok
returns-in-Some-clause-ok g c = gives _ _ _ _ c.in-Some.is c.requires
