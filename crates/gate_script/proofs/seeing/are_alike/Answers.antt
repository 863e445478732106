use Rattle.gate_script.proofs.SeeingLaws.{alike, unlike}
use Rattle.gate_script.proofs.seeing.are_alike.Goals as goal

pub returns-in-Some-Some-clause-alike : goal.returns-in-Some-Some-clause-alike
returns-in-Some-Some-clause-alike c = alike c.args.one.now c.args.other.now c.in-Some-Some.one c.in-Some-Some.other c.same.result c.in-Some-Some.is-0 c.in-Some-Some.is-1 c.same.ensures

pub returns-in-Some-Some-clause-unlike : goal.returns-in-Some-Some-clause-unlike
returns-in-Some-Some-clause-unlike c = unlike c.args.one.now c.args.other.now c.in-Some-Some.one c.in-Some-Some.other c.same.result c.in-Some-Some.is-0 c.in-Some-Some.is-1 c.same.ensures
