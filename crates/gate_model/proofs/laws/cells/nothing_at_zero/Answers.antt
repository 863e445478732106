use Rattle.gate_model.proofs.CellLaws.{nothing_at_zero}
use Rattle.gate_model.proofs.laws.cells.nothing_at_zero.Goals as goal

pub returns : goal.returns
returns c = nothing_at_zero
