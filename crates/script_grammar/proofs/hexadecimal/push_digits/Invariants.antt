use Rattle.std.proofs.Common.{◌≡◌, ◌++◌, take}
use Rattle.script_grammar.specs.Hexadecimal.{digits_of}
use Rattle.script_grammar.proofs.hexadecimal.push_digits.Given as goal

abbrev pub invariant-loop-byte : goal.invariant-loop-byte
invariant-loop-byte l = l.text.items ≡ l.fn.text.items ++ digits_of (take l.byte-index l.bytes)
