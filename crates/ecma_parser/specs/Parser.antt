-- What a clause reads of `Parser` and `Pair`.
use Rattle.std.specs.Prelude.{ℕ, List, []}
use Rattle.std.specs.List.{cons_option}
use Rattle.ecma_parser.specs.declared.parser.Pair.{Pair}
use Rattle.ecma_parser.specs.declared.parser.Parser.{Parser}
use Rattle.ecma_parser.specs.Past.{HaveRead}
use Rattle.gate_model.specs.declared.control.Control.{Control}

-- the parser has read these bytes
abbrev pub HasRead : Parser → List ℕ → Type 0
HasRead parser bytes = HaveRead parser.held parser.machine bytes

-- the control functions of a pair, in order
abbrev pub listed : Pair → List Control
listed pair = cons_option pair.first (cons_option pair.second [])
