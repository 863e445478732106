use Rattle.std.proofs.Common.{◌∷◌, [], refl, sym}
use Rattle.ecma_parser.specs.State.{control_by, csi_void_end}
use Rattle.ecma_parser.proofs.StateLaws.{gives-waiting, gives-ended, gives-left, csi_void_end-more, csi_void_end-final, csi_void_end-other}
use Rattle.ecma_parser.proofs.machine.Machine.csi_intermediate.Goals as goal

pub returns-then-is_intermediate : goal.returns-then-is_intermediate
returns-then-is_intermediate c = λ rest reads.
    gives-waiting rest c.args.c csi_void_end csi_void_end _ reads (λ more. csi_void_end-more c.args.c more (sym c.if-is_intermediate.ensures)) refl (λ on. on)

pub returns-then-is_csi_final : goal.returns-then-is_csi_final
returns-then-is_csi_final c = λ rest reads.
    gives-ended rest c.args.c csi_void_end [] _ reads (csi_void_end-final c.args.c (sym c.if-is_intermediate.ensures) (sym c.if-is_csi_final.ensures)) refl

pub returns-else-is_csi_final : goal.returns-else-is_csi_final
returns-else-is_csi_final c = λ rest reads.
    gives-left rest c.args.c csi_void_end (c.args.c ∷ []) (control_by c.outside.result c.outside.new.self.sequence) c.outside.new.self reads
    (csi_void_end-other c.args.c (sym c.if-is_intermediate.ensures) (sym c.if-is_csi_final.ensures)) c.outside.ensures
