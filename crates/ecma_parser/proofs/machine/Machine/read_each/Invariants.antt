use Rattle.std.proofs.Common.{ℕ, List, [], ◌++◌, ◌≤◌, All, take}
use Rattle.ecma_parser.specs.State.{Stands, Gives}
use Rattle.ecma_parser.proofs.machine.Machine.read_each.Given as goal

-- the bytes before the place are below 0x80, and complete nothing
abbrev pub invariant-loop-i : goal.invariant-loop-i
invariant-loop-i l = All (λ b. b ≤ 0x7F) (take l.i l.piece) × ((rest : List ℕ) → Stands l.fn.self rest → Gives (rest ++ take l.i l.piece) [] l.self)
