use Rattle.gate_script.proofs.OneRun.{one_play, but_the_newest}
use Rattle.gate_script.proofs.laws.frames_fix_the_play.Goals as goal

pub returns-clause-whole : goal.returns-clause-whole
returns-clause-whole c = one_play

pub returns-clause-cut : goal.returns-clause-cut
returns-clause-cut c = but_the_newest
