use Rattle.std.proofs.Common.{◌∙◌, ap, ◌++◌}
use Rattle.std.proofs.lemmas.Result.{on_ok_weaker}
use Rattle.guac_instr.proofs.KindTexts.{sync_text, disconnect_text, error_text}
use Rattle.guac_instr.proofs.texts.put_instr.Goals as goal

pub returns-in-Sync-clause-appended : goal.returns-in-Sync-clause-appended
returns-in-Sync-clause-appended c =
    on_ok_weaker c.put_parts.result
    (λ put. put ∙ ap (λ t. c.args.into.now.items ++ t) (sync_text c.args.instr.now c.in-Sync.stamp c.in-Sync.is))
    c.put_parts.ensures.appended

pub returns-in-Disconnect-clause-appended : goal.returns-in-Disconnect-clause-appended
returns-in-Disconnect-clause-appended c =
    on_ok_weaker c.put_parts-in-Disconnect.result
    (λ put. put ∙ ap (λ t. c.args.into.now.items ++ t) (disconnect_text c.args.instr.now c.in-Disconnect.is))
    c.put_parts-in-Disconnect.ensures.appended

pub returns-in-Error-clause-appended : goal.returns-in-Error-clause-appended
returns-in-Error-clause-appended c =
    on_ok_weaker c.put_parts-in-Error.result
    (λ put. put ∙ ap (λ t. c.args.into.now.items ++ t) (error_text c.args.instr.now c.in-Error.status _ _ c.in-Error.is c.from.ensures c.message_of.ensures))
    c.put_parts-in-Error.ensures.appended
