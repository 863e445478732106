use Rattle.std.proofs.Common.{refl, sym, ◌∙◌}
use Rattle.ecma_parser.specs.State.{csi_void}
use Rattle.ecma_parser.proofs.StateLaws.{gives-waiting, csi_void-more, csi_void-end}
use Rattle.ecma_parser.proofs.machine.Machine.csi_ignore.Goals as goal

pub returns-then-is_parameter : goal.returns-then-is_parameter
returns-then-is_parameter c = λ rest reads.
    gives-waiting rest c.args.c csi_void csi_void _ reads (λ more. csi_void-more c.args.c more (sym c.if-is_parameter.ensures)) refl (λ on. on)

pub returns-else-is_parameter : goal.returns-else-is_parameter
returns-else-is_parameter c = λ rest reads.
    c.csi_intermediate.ensures rest (λ more. reads more ∙ csi_void-end c.args.c more (sym c.if-is_parameter.ensures))
