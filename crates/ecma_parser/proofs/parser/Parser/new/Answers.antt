use Rattle.std.proofs.Common.{[]}
use Rattle.ecma_parser.proofs.ParserLaws.{new-past}
use Rattle.ecma_parser.proofs.parser.Parser.new.Goals as goal

pub invariant_of-result : goal.invariant_of-result
invariant_of-result c = record { past = ∣ ([], new-past c.new.result c.new-2.result c.new.ensures c.new-2.ensures) ∣₁ }

pub returns : goal.returns
returns c = new-past c.new.result c.new-2.result c.new.ensures c.new-2.ensures
