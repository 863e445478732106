use Rattle.gate_model.specs.terminal.Controls.{csi_after}
use Rattle.ecma_parser.proofs.StateLaws.{param-text, follows}
use Rattle.ecma_parser.proofs.machine.Machine.read_within.Goals as goal

pub returns-in-CsiParam : goal.returns-in-CsiParam
returns-in-CsiParam c = λ rest stands.
    let found = param-text c.args.self.now.sequence rest c.args.self.now.state c.in-CsiParam.is stands in
    c.csi_param.ensures rest found.text found.holds (found.begun c.args.c) (follows rest c.args.c (csi_after found.text) found.reads)
