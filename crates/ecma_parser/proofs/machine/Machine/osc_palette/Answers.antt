use Rattle.std.proofs.Common.{◌-◌, [], refl, arith}
use Rattle.ecma_parser.specs.State.{palette_escape}
use Rattle.gate_model.specs.terminal.Controls.{head_palette}
use Rattle.ecma_parser.proofs.StateLaws.{gives-waiting, gives-ended}
use Rattle.ecma_parser.proofs.StringLaws.{palette-nil, palette-last, palette-more, palette-escape}
use Rattle.ecma_parser.proofs.machine.Machine.osc_palette.Goals as goal

pub returns-then-left-le1 : goal.returns-then-left-le1
returns-then-left-le1 c = λ rest some reads.
    gives-ended rest c.args.c (head_palette c.args.left) [] _ reads (palette-last c.args.left c.args.c (omega arith)) refl

pub returns-then-c-eq-ESC : goal.returns-then-c-eq-ESC
returns-then-c-eq-ESC c = λ rest some reads.
    gives-waiting rest c.args.c (head_palette c.args.left) (palette_escape (c.args.left - 1)) _ reads
    (λ more. palette-escape c.args.left c.args.c more (omega arith) c.if-c-eq-ESC.true) refl (λ on. (omega arith, on))

pub returns-else-c-eq-ESC : goal.returns-else-c-eq-ESC
returns-else-c-eq-ESC c = λ rest some reads.
    gives-waiting rest c.args.c (head_palette c.args.left) (head_palette (c.args.left - 1)) _ reads
    (λ more. palette-more c.args.left c.args.c more (omega arith) c.if-c-eq-ESC.false) (palette-nil (c.args.left - 1) (omega arith)) (λ on. (omega arith, on))
