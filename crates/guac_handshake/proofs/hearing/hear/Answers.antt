use Rattle.std.proofs.Common.{Err, ap, ◌∙◌}
use Rattle.std.proofs.lemmas.Result.{err_from_is_err_and}
use Rattle.guac_handshake.proofs.HearingLaws.{heard_fault}
use Rattle.guac_handshake.specs.declared.stop.Stop.{Stop}
use Rattle.guac_handshake.proofs.hearing.hear.Goals as goal

pub returns-in_err-read-in-More-clause-heard : goal.returns-in_err-read-in-More-clause-heard
returns-in_err-read-in-More-clause-heard g c =
    let r = c.from_residual-in_err-read-in-More in
    let p = err_from_is_err_and r.result r.ensures.1 in
    heard_fault _ _ _ _ _ _ _ _ _ _ c.loop-frame.invariant.moved c.in_err-read-in-More.ensures.moved c.as_slice.ensures c.in_err-read-in-More.ensures.stopped c.in-More.ensures.more c.in_err-read-in-More.ensures.kind (p.1 ∙ ap (λ (s : Stop). Err s) p.2)
