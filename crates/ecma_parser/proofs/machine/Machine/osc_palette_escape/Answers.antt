use Rattle.std.proofs.Common.{◌-◌, ◌∷◌, [], refl, arith}
use Rattle.ecma_parser.specs.State.{control_by, palette_escape}
use Rattle.gate_model.specs.terminal.Controls.{head_palette}
use Rattle.ecma_parser.proofs.StateLaws.{gives-waiting, gives-ended, gives-left}
use Rattle.ecma_parser.proofs.StringLaws.{palette-nil, palette_escape-last, palette_escape-more, palette_escape-other}
use Rattle.ecma_parser.proofs.machine.Machine.osc_palette_escape.Goals as goal

pub returns-then-c-ne92 : goal.returns-then-c-ne92
returns-then-c-ne92 c = λ rest some reads.
    gives-left rest c.args.c (palette_escape c.args.left) (0x1B ∷ c.args.c ∷ []) (control_by c.escape.result c.escape.new.self.sequence) c.escape.new.self reads
    (palette_escape-other c.args.left c.args.c c.if-c-ne92.true) c.escape.ensures

pub returns-then-left-le1 : goal.returns-then-left-le1
returns-then-left-le1 c = λ rest some reads.
    gives-ended rest c.args.c (palette_escape c.args.left) [] _ reads (palette_escape-last c.args.left c.args.c (omega arith) c.if-c-ne92.false) refl

pub returns-else-left-le1 : goal.returns-else-left-le1
returns-else-left-le1 c = λ rest some reads.
    gives-waiting rest c.args.c (palette_escape c.args.left) (head_palette (c.args.left - 1)) _ reads
    (λ more. palette_escape-more c.args.left c.args.c more c.if-c-ne92.false) (palette-nil (c.args.left - 1) (omega arith)) (λ on. (omega arith, on))
