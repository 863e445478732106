use Rattle.gate_script.proofs.ClipLaws.{ends_cut, ends_well}
use Rattle.gate_script.proofs.clip.end.Goals as goal

pub returns-in-Ok-clause-ends : goal.returns-in-Ok-clause-ends
returns-in-Ok-clause-ends g c = ends_well c.args.paster.now c.finish.new.self c.drain.new.paster _ c.args.status _ _ c.finish.ensures.none_comes c.in-Ok.ensures.written (c.in-Ok.ensures.over c.finish.ensures.ended)

pub returns-in-Err-clause-ends : goal.returns-in-Err-clause-ends
returns-in-Err-clause-ends g c = ends_cut c.args.paster.now c.finish.new.self c.drain.new.paster _ _ c.args.status _ _ c.finish.ensures.none_comes c.in-Err.ensures.written c.in-Err.ensures.cause
