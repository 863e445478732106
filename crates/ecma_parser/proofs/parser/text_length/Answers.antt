use Rattle.std.proofs.Common.{arith}
use Rattle.std.proofs.lemmas.List.Elements.{All-more}
use Rattle.gate_model.specs.terminal.Printing.{IsPrintable}
use Rattle.ecma_parser.proofs.parser.text_length.Goals as goal

pub loop-i-preserved : goal.loop-i-preserved
loop-i-preserved c = All-more IsPrintable c.args.piece.now c.loop-i.i 0 c.loop-i-test.true c.loop-i.invariant (omega (arith, c.if-byte-lt32.false), omega (arith, c.if-byte-gt126.false))
