use Rattle.std.proofs.Common.{◌∷◌, [], refl, sym}
use Rattle.gate_model.specs.terminal.Controls.{escape_after}
use Rattle.ecma_parser.specs.State.{control_by}
use Rattle.ecma_parser.proofs.StateLaws.{gives-waiting, gives-ended, gives-left, escape_after-more, escape_after-final, escape_after-other}
use Rattle.ecma_parser.proofs.machine.Machine.escape_intermediate.Goals as goal

pub returns-then-is_intermediate : goal.returns-then-is_intermediate
returns-then-is_intermediate c = λ rest reads.
    gives-waiting rest c.args.c escape_after escape_after _ reads (λ more. escape_after-more c.args.c more (sym c.if-is_intermediate.ensures)) refl (λ on. on)

pub returns-then-is_escape_final : goal.returns-then-is_escape_final
returns-then-is_escape_final c = λ rest reads.
    gives-ended rest c.args.c escape_after [] _ reads (escape_after-final c.args.c (sym c.if-is_intermediate.ensures) (sym c.if-is_escape_final.ensures)) refl

pub returns-else-is_escape_final : goal.returns-else-is_escape_final
returns-else-is_escape_final c = λ rest reads.
    gives-left rest c.args.c escape_after (c.args.c ∷ []) (control_by c.outside.result c.outside.new.self.sequence) c.outside.new.self reads
    (escape_after-other c.args.c (sym c.if-is_intermediate.ensures) (sym c.if-is_escape_final.ensures)) c.outside.ensures
