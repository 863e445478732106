use Rattle.std.proofs.Common.{[], refl, ◌∙◌, arith}
use Rattle.gate_model.specs.terminal.Controls.{head_osc, head_palette}
use Rattle.ecma_parser.proofs.StateLaws.{gives-waiting, gives-ended}
use Rattle.ecma_parser.proofs.StringLaws.{osc-reset, osc-palette, osc-string}
use Rattle.ecma_parser.proofs.machine.Machine.osc_entry.Goals as goal

pub returns-then-c-eq82 : goal.returns-then-c-eq82
returns-then-c-eq82 c = λ rest reads. gives-ended rest c.args.c head_osc [] _ reads (osc-reset c.args.c c.if-c-eq82.true) refl

pub returns-then-c-eq80 : goal.returns-then-c-eq80
returns-then-c-eq80 c = λ rest reads.
    gives-waiting rest c.args.c head_osc (head_palette 7) _ reads (λ more. osc-palette c.args.c more c.if-c-eq80.true) refl (λ on. (omega arith, on))

pub returns-else-c-eq80 : goal.returns-else-c-eq80
returns-else-c-eq80 c = λ rest reads. c.string.ensures rest (λ more. reads more ∙ osc-string c.args.c more c.if-c-eq82.false c.if-c-eq80.false)
