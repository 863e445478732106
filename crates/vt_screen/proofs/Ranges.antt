-- How long a part of a grid's cells is.
use Rattle.std.proofs.Common.{◌≡◌, ℕ, ◌+◌, ◌-◌, ◌*◌, ◌<◌, ◌≤◌, List, length, mul-le-mul_right, arith}
use Rattle.std.specs.Prelude.{slice_range}
use Rattle.std.proofs.lemmas.Grind.{common_steps}
use Rattle.gate_model.specs.declared.cell.Cell.{Cell}
use Rattle.gate_model.specs.terminal.Cells.{CellGrid}

pub length-range : (from to : ℕ) (cells : List Cell) → to ≤ length cells → length (slice_range cells from to) ≡ to - from
length-range from to cells le = grind (arith, common_steps)

-- a row ends within the cells
pub row_room : (y : ℕ) (g : CellGrid) → y < g.rows → y * g.cols + g.cols ≤ g.rows * g.cols
row_room y g lt = let le = mul-le-mul_right {m = y + 1} {n = g.rows} g.cols (omega (arith, lt)) in omega (arith, le)
