use Rattle.std.proofs.Common.{◌∙◌, ap, ◌++◌}
use Rattle.std.proofs.Math.Facts.{to_z-of_z}
use Rattle.std.proofs.lemmas.Result.{on_ok_weaker}
use Rattle.guac_instr.proofs.KindTexts.{copy_text}
use Rattle.guac_instr.proofs.texts.put_copy.Goals as goal

pub returns-clause-appended : goal.returns-clause-appended
returns-clause-appended c =
    on_ok_weaker c.put_parts.result
    (λ put. put ∙ ap (λ t. c.args.into.now.items ++ t) (copy_text c.args.from _ c.args.x c.args.y c.args.width c.args.height c.args.to _ c.args.to_x c.args.to_y _ _ _ _ _ _ (to_z-of_z c.ranges.from) (to_z-of_z c.ranges.to) c.from.ensures c.from-2.ensures c.from-3.ensures c.from-4.ensures c.from-5.ensures c.from-6.ensures))
    c.put_parts.ensures.appended
