use Rattle.gate_model.proofs.Keeping.{covers-by_stamp, covered-few}
use Rattle.gate_model.proofs.laws.frames.covers_by_stamp.Goals as goal

pub returns : goal.returns
returns c = record { stamp = covers-by_stamp; few = covered-few }
