use Rattle.std.proofs.Common.{◌≡◌, drop}
use Rattle.gate_model.specs.terminal.Modes.{modes_set}
use Rattle.vt_screen.proofs.modes.Modes.set.Given as goal

-- the numbers that are left make of the modes what all make of the first ones
abbrev pub invariant-loop-number : goal.invariant-loop-number
invariant-loop-number l = modes_set l.private l.on (drop l.number-index l.numbers) l.self ≡ modes_set l.private l.on l.numbers l.fn.self
