use Rattle.std.proofs.Common.{All, take}
use Rattle.gate_model.specs.terminal.Printing.{IsPrintable}
use Rattle.ecma_parser.proofs.parser.text_length.Given as goal

abbrev pub invariant-loop-i : goal.invariant-loop-i
invariant-loop-i l = All IsPrintable (take l.i l.piece)
