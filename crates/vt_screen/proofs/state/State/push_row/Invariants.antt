use Rattle.std.proofs.Common.{◌≡◌, ◌++◌, take, map}
use Rattle.gate_model.specs.terminal.Cells.{rest_of_row}
use Rattle.gate_model.specs.terminal.Screens.{key_of}
use Rattle.vt_screen.proofs.state.State.push_row.Given as goal

-- the keys of the row so far
abbrev pub invariant-loop-x : goal.invariant-loop-x
invariant-loop-x l = l.keys.items ≡ l.fn.keys.items ++ map (key_of l.self-inside.faces) (take l.x (rest_of_row 0 l.y l.self-inside.grid))
