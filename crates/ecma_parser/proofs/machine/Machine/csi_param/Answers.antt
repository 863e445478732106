use Rattle.std.proofs.Common.{◌∷◌, [], refl, sym}
use Rattle.gate_model.specs.terminal.Controls.{csi_after}
use Rattle.ecma_parser.specs.State.{control_by, csi_void_end}
use Rattle.ecma_parser.specs.Sequence.{csi_of}
use Rattle.ecma_parser.proofs.SequenceLaws.{control-is}
use Rattle.ecma_parser.proofs.StateLaws.{gives-waiting, gives-ended, gives-left, param-kept, param-void, csi_after-intermediate, csi_after-final, csi_after-other}
use Rattle.ecma_parser.proofs.machine.Machine.csi_param.Goals as goal
use Rattle.ecma_parser.proofs.machine.Machine.csi_param.Goals.{then-has_effect, else-has_effect}

pub returns-after-has_effect : goal.returns-after-has_effect
returns-after-has_effect c = λ rest text holds goes_on reads.
    let parameter = sym c.if-is_parameter.ensures in
    let s = c.push-has_effect.new.self in
    let state = c.if-has_effect.self in
    elim c.if-has_effect.branch [
      | then-has_effect w ↦ param-kept rest text c.args.c reads parameter s state w.self-is (c.push-has_effect.ensures.kept w.if-has_effect.true text holds goes_on)
      | else-has_effect w ↦ param-void rest text c.args.c reads parameter s state w.self-is (c.push-has_effect.ensures.void w.if-has_effect.false text holds goes_on)
    ]

pub returns-then-is_intermediate : goal.returns-then-is_intermediate
returns-then-is_intermediate c = λ rest text holds goes_on reads.
    gives-waiting rest c.args.c (csi_after text) csi_void_end _ reads
    (λ more. csi_after-intermediate text c.args.c more (sym c.if-is_parameter.ensures) (sym c.if-is_intermediate.ensures)) refl (λ on. on)

pub returns-then-is_csi_final : goal.returns-then-is_csi_final
returns-then-is_csi_final c = λ rest text holds goes_on reads.
    gives-ended rest c.args.c (csi_after text) (csi_of c.args.self.now.sequence c.args.c ∷ []) _ reads
    (csi_after-final text c.args.c (csi_of c.args.self.now.sequence c.args.c) (sym c.if-is_parameter.ensures) (sym c.if-is_intermediate.ensures) (sym c.if-is_csi_final.ensures) (control-is c.args.self.now.sequence text c.args.c holds)) refl

pub returns-else-is_csi_final : goal.returns-else-is_csi_final
returns-else-is_csi_final c = λ rest text holds goes_on reads.
    gives-left rest c.args.c (csi_after text) (c.args.c ∷ []) (control_by c.outside.result c.outside.new.self.sequence) c.outside.new.self reads
    (csi_after-other text c.args.c (sym c.if-is_parameter.ensures) (sym c.if-is_intermediate.ensures) (sym c.if-is_csi_final.ensures)) c.outside.ensures
