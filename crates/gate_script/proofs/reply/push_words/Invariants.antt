use Rattle.std.proofs.Common.{◌≡◌, ◌++◌, take}
use Rattle.std.specs.Prelude.{flat_map}
use Rattle.gate_script.specs.Told.{blank_and}
use Rattle.gate_script.proofs.reply.push_words.Given as goal

abbrev pub invariant-loop-number : goal.invariant-loop-number
invariant-loop-number l = l.line.items ≡ l.fn.line.items ++ l.fn.word ++ flat_map blank_and (take l.number-index l.numbers)
