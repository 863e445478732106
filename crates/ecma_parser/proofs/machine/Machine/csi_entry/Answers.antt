use Rattle.std.proofs.Common.{[]}
use Rattle.ecma_parser.proofs.StateLaws.{param-marked}
use Rattle.ecma_parser.proofs.machine.Machine.csi_entry.Goals as goal

pub returns-then-c-eq63 : goal.returns-then-c-eq63
returns-then-c-eq63 c = λ rest holds reads. param-marked rest c.args.c c.new-self.result reads c.if-c-eq63.true c.new-self.ensures

pub returns : goal.returns
returns c = λ rest holds reads. c.csi_param.ensures rest [] holds (λ none. c.if-c-eq63.false) reads
