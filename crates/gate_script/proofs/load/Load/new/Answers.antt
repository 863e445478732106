use Rattle.std.proofs.Common.{refl}
use Rattle.gate_script.proofs.LoadLaws.{load_new}
use Rattle.gate_script.proofs.load.Load.new.Goals as goal

pub returns-clause-stands : goal.returns-clause-stands
returns-clause-stands c = λ now. load_new (record { run = c.new.result; totals = record { feeds = 0; keys = 0; out = 0 } }) now c.new.ensures.moment c.new.ensures.session c.new.ensures.lines refl refl refl
