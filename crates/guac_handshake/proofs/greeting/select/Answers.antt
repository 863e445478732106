use Rattle.std.proofs.Common.{Ok, Err, ap, ◌∙◌, subst}
use Rattle.std.proofs.lemmas.Result.{err_from_is_err_and}
use Rattle.guac_handshake.specs.Heard.{HasHeard}
use Rattle.guac_handshake.specs.declared.expected.Said.{Said}
use Rattle.guac_handshake.specs.declared.expected.Expected.TheVariants.{Select}
use Rattle.guac_handshake.specs.declared.stop.Stop.{Stop}
use Rattle.guac_handshake.proofs.First.{select_bad, select_found, select_stop}
use Rattle.guac_handshake.proofs.Causes.{early_heard}
use Rattle.guac_handshake.proofs.greeting.select.Goals as goal

pub returns-in_err-name-clause-selected : goal.returns-in_err-name-clause-selected
returns-in_err-name-clause-selected g c =
    let r = c.from_residual in
    let p = err_from_is_err_and r.result r.ensures.1 in
    select_stop _ _ _ _ _ _ _ _ c.in_err-name.ensures.heard (p.1 ∙ ap (λ (s : Stop). Err s) p.2)

pub returns-in-Select-clause-selected : goal.returns-in-Select-clause-selected
returns-in-Select-clause-selected g c =
    let h = subst (λ (s : Said). HasHeard Select (g.S.Source.left c.args.source.now) (g.S.Source.left c.hear.new.source) c.args.unread.now c.hear.new.unread (Ok s)) c.in-Select.is c.in_ok-name.ensures.heard in
    select_found _ _ _ _ _ _ _ _ h c.look.ensures.found

pub returns-in-Bad-clause-selected : goal.returns-in-Bad-clause-selected
returns-in-Bad-clause-selected g c =
    let h = subst (λ (s : Said). HasHeard Select (g.S.Source.left c.args.source.now) (g.S.Source.left c.hear.new.source) c.args.unread.now c.hear.new.unread (Ok s)) c.in-Bad.is c.in_ok-name.ensures.heard in
    select_bad _ _ _ _ _ _ h

pub returns-in_err-name-clause-early : goal.returns-in_err-name-clause-early
returns-in_err-name-clause-early g c =
    let r = c.from_residual in
    let p = err_from_is_err_and r.result r.ensures.1 in
    early_heard _ _ _ _ _ _ r.result c.in_err-name.ensures.heard (p.1 ∙ ap (λ (s : Stop). Err s) p.2)
