use Rattle.std.proofs.Common.{true, false, [], refl, sym, ap, ◌∙◌}
use Rattle.gate_model.specs.terminal.Controls.{head_string, string_escape}
use Rattle.ecma_parser.proofs.StateLaws.{gives-waiting, gives-ended}
use Rattle.ecma_parser.proofs.StringLaws.{string-ended, string-escape, string-more}
use Rattle.ecma_parser.proofs.machine.Machine.string.Goals as goal

pub returns-then-ends_string : goal.returns-then-ends_string
returns-then-ends_string c = λ rest reads.
    gives-ended rest c.args.c (head_string c.args.by_bell) [] _ reads (string-ended c.args.by_bell c.args.c (sym c.if-ends_string.ensures)) refl

pub returns-then-c-eq-ESC : goal.returns-then-c-eq-ESC
returns-then-c-eq-ESC c = λ rest reads.
    gives-waiting rest c.args.c (head_string c.args.by_bell) string_escape _ reads
    (λ more. string-escape c.args.by_bell c.args.c more (sym c.if-ends_string.ensures) c.if-c-eq-ESC.true) refl (λ on. on)

pub returns-then-by_bell : goal.returns-then-by_bell
returns-then-by_bell c = λ rest reads.
    gives-waiting rest c.args.c (head_string c.args.by_bell) (head_string true) _ reads
    (λ more. string-more c.args.by_bell c.args.c more (sym c.if-ends_string.ensures) c.if-c-eq-ESC.false ∙ ap (λ b. head_string b more) c.if-by_bell.true) refl (λ on. on)

pub returns-else-by_bell : goal.returns-else-by_bell
returns-else-by_bell c = λ rest reads.
    gives-waiting rest c.args.c (head_string c.args.by_bell) (head_string false) _ reads
    (λ more. string-more c.args.by_bell c.args.c more (sym c.if-ends_string.ensures) c.if-c-eq-ESC.false ∙ ap (λ b. head_string b more) c.if-by_bell.false) refl (λ on. on)
