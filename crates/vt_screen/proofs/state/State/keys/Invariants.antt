use Rattle.std.proofs.Common.{◌≡◌, ◌*◌, take, map}
use Rattle.gate_model.specs.terminal.Screens.{key_of}
use Rattle.vt_screen.proofs.state.State.keys.Given as goal

-- the keys of the rows so far
abbrev pub invariant-loop-y : goal.invariant-loop-y
invariant-loop-y l = l.keys.items ≡ map (key_of l.self.faces) (take (l.y * l.self.grid.cols) l.self.grid.cells)
