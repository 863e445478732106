use Rattle.std.proofs.Common.{◌∷◌, [], false, refl, sym}
use Rattle.gate_model.specs.terminal.Controls.{head_escape, csi_after, head_osc, head_string, escape_after}
use Rattle.gate_model.specs.declared.control.Control.TheVariants.{Esc}
use Rattle.ecma_parser.specs.State.{control_by}
use Rattle.ecma_parser.proofs.StateLaws.{gives-waiting, gives-ended, gives-left, escape-follows, escape-csi, escape-osc, escape-string, escape-intermediate, escape-final, escape-other}
use Rattle.ecma_parser.proofs.machine.Machine.escape.Goals as goal

pub returns-then-c-eq91 : goal.returns-then-c-eq91
returns-then-c-eq91 c = gives-waiting (0x1B ∷ []) c.args.c head_escape (csi_after []) _ (escape-follows c.args.c) (λ more. escape-csi c.args.c more c.if-c-eq91.true) refl
    (λ on. (c.new-self.ensures, on))

pub returns-then-c-eq93 : goal.returns-then-c-eq93
returns-then-c-eq93 c = gives-waiting (0x1B ∷ []) c.args.c head_escape head_osc _ (escape-follows c.args.c) (λ more. escape-osc c.args.c more c.if-c-eq93.true) refl (λ on. on)

pub returns-then-begins_string : goal.returns-then-begins_string
returns-then-begins_string c = gives-waiting (0x1B ∷ []) c.args.c head_escape (head_string false) _ (escape-follows c.args.c)
    (λ more. escape-string c.args.c more c.if-c-eq91.false c.if-c-eq93.false (sym c.if-begins_string.ensures)) refl (λ on. on)

pub returns-then-is_intermediate : goal.returns-then-is_intermediate
returns-then-is_intermediate c = gives-waiting (0x1B ∷ []) c.args.c head_escape escape_after _ (escape-follows c.args.c)
    (λ more. escape-intermediate c.args.c more c.if-c-eq91.false c.if-c-eq93.false (sym c.if-begins_string.ensures) (sym c.if-is_intermediate.ensures)) refl (λ on. on)

pub returns-then-is_escape_final : goal.returns-then-is_escape_final
returns-then-is_escape_final c = gives-ended (0x1B ∷ []) c.args.c head_escape (Esc c.args.c ∷ []) _ (escape-follows c.args.c)
    (escape-final c.args.c [] c.if-c-eq91.false c.if-c-eq93.false (sym c.if-begins_string.ensures) (sym c.if-is_intermediate.ensures) (sym c.if-is_escape_final.ensures)) refl

pub returns-else-is_escape_final : goal.returns-else-is_escape_final
returns-else-is_escape_final c = gives-left (0x1B ∷ []) c.args.c head_escape (c.args.c ∷ []) (control_by c.outside.result c.outside.new.self.sequence) c.outside.new.self (escape-follows c.args.c)
    (escape-other c.args.c [] c.if-c-eq91.false c.if-c-eq93.false (sym c.if-begins_string.ensures) (sym c.if-is_intermediate.ensures) (sym c.if-is_escape_final.ensures)) c.outside.ensures
