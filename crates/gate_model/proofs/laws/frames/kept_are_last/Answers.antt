use Rattle.gate_model.proofs.Keeping.{kept-last, kept-few, kept-all, kept-more}
use Rattle.gate_model.proofs.laws.frames.kept_are_last.Goals as goal

pub returns : goal.returns
returns c = record { last = kept-last; few = kept-few; all = kept-all; on = kept-more }
