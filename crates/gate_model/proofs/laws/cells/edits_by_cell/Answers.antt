use Rattle.gate_model.proofs.CellLaws.{put-by_cell, erased-by_cell, inserted-by_cell, deleted-by_cell, scrolled_up-by_cell, scrolled_down-by_cell}
use Rattle.gate_model.proofs.laws.cells.edits_by_cell.Goals as goal

pub returns-clause-put : goal.returns-clause-put
returns-clause-put c = put-by_cell

pub returns-clause-erased : goal.returns-clause-erased
returns-clause-erased c = erased-by_cell

pub returns-clause-inserted : goal.returns-clause-inserted
returns-clause-inserted c = inserted-by_cell

pub returns-clause-deleted : goal.returns-clause-deleted
returns-clause-deleted c = deleted-by_cell

pub returns-clause-up : goal.returns-clause-up
returns-clause-up c = scrolled_up-by_cell

pub returns-clause-down : goal.returns-clause-down
returns-clause-down c = scrolled_down-by_cell
