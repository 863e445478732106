use Rattle.std.proofs.Common.{◌≡◌, drop}
use Rattle.gate_model.specs.picture.Letters.{number_in, runs}
use Rattle.gate_model.proofs.more_faces.number_of.Given as goal

abbrev pub invariant-loop-i : goal.invariant-loop-i
invariant-loop-i l = number_in (drop l.i runs) l.code ≡ number_in runs l.code
