use Rattle.gate_model.proofs.CellLaws.{resized-by_cell}
use Rattle.gate_model.proofs.laws.cells.resized_by_cell.Goals as goal

pub returns : goal.returns
returns c = resized-by_cell
