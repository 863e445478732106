use Rattle.std.proofs.Common.{◌∷◌, [], refl}
use Rattle.gate_model.specs.terminal.Controls.{string_escape}
use Rattle.ecma_parser.specs.State.{control_by}
use Rattle.ecma_parser.proofs.StateLaws.{gives-ended, gives-left}
use Rattle.ecma_parser.proofs.StringLaws.{string_escape-ended, string_escape-other}
use Rattle.ecma_parser.proofs.machine.Machine.string_escape.Goals as goal

pub returns-then-c-ne92 : goal.returns-then-c-ne92
returns-then-c-ne92 c = λ rest reads.
    gives-left rest c.args.c string_escape (0x1B ∷ c.args.c ∷ []) (control_by c.escape.result c.escape.new.self.sequence) c.escape.new.self reads (string_escape-other c.args.c c.if-c-ne92.true) c.escape.ensures

pub returns : goal.returns
returns c = λ rest reads. gives-ended rest c.args.c string_escape [] _ reads (string_escape-ended c.args.c c.if-c-ne92.false) refl
