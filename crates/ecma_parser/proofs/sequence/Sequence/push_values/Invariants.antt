use Rattle.std.proofs.Common.{◌≡◌, ℕ, List, ◌++◌, All, take}
use Rattle.ecma_parser.specs.Sequence.{Holds, HoldsBut, IsPlain, longer}
use Rattle.ecma_parser.proofs.sequence.Sequence.push_values.Given as goal

-- the bytes before the place are kept, and not counted
abbrev pub invariant-loop-i : goal.invariant-loop-i
invariant-loop-i l =
    All IsPlain (take l.i l.front) × (l.self.length ≡ l.fn.self.length)
    × ((text : List ℕ) → Holds l.fn.self text → HoldsBut l.value (longer l.i l.self) (text ++ take l.i l.front))
