use Rattle.std.proofs.Common.{◌∙◌, ap, ◌++◌}
use Rattle.std.proofs.Math.Facts.{to_z-of_z}
use Rattle.std.proofs.lemmas.Result.{on_ok_weaker}
use Rattle.guac_instr.proofs.KindTexts.{size_text}
use Rattle.guac_instr.proofs.texts.put_size.Goals as goal

pub returns-clause-appended : goal.returns-clause-appended
returns-clause-appended c =
    on_ok_weaker c.put_parts.result
    (λ put. put ∙ ap (λ t. c.args.into.now.items ++ t) (size_text c.args.layer _ c.args.width c.args.height _ _ (to_z-of_z c.ranges.layer) c.from.ensures c.from-2.ensures))
    c.put_parts.ensures.appended
