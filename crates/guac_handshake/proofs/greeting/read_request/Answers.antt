use Rattle.std.proofs.Common.{Err, ap, ◌∙◌}
use Rattle.std.proofs.lemmas.Result.{err_from_is_err_and}
use Rattle.guac_handshake.specs.declared.stop.Stop.{Stop}
use Rattle.guac_handshake.proofs.First.{asked_early, asked_none, asked_on, asked_unwritten}
use Rattle.guac_handshake.proofs.Causes.{early_end, early_on, early_short, early_unwritten}
use Rattle.guac_handshake.proofs.greeting.read_request.Goals as goal

pub returns-in_err-piece-clause-request : goal.returns-in_err-piece-clause-request
returns-in_err-piece-clause-request g c =
    let r = c.from_residual in
    let p = err_from_is_err_and r.result r.ensures.1 in
    asked_none g.D.Door.id_of (g.D.Door.view c.args.door.now).sessions (g.S.Source.left c.args.source.now) (g.S.Source.left c.args.source.now) (g.K.Sink.written c.args.sink.now) (g.K.Sink.written c.args.sink.now) c.args.unread.now c.args.unread.now r.result (p.1 ∙ ap (λ (s : Stop). Err s) p.2)

pub returns-in_err-selected-clause-request : goal.returns-in_err-selected-clause-request
returns-in_err-selected-clause-request g c =
    let r = c.from_residual-in_err-selected in
    let p = err_from_is_err_and r.result r.ensures.1 in
    asked_early _ _ _ _ (g.K.Sink.written c.args.sink.now) (g.K.Sink.written c.args.sink.now) _ _ _ r.result c.in_err-selected.ensures.selected (p.1 ∙ ap (λ (s : Stop). Err s) p.2)

pub returns-in_err-write_args-clause-request : goal.returns-in_err-write_args-clause-request
returns-in_err-write_args-clause-request g c =
    let r = c.from_residual-in_err-write_args in
    let p = err_from_is_err_and r.result r.ensures.1 in
    asked_unwritten _ _ _ _ _ _ _ _ _ r.result c.in_ok-selected.ensures.selected c.in_err-write_args.ensures.part (p.1 ∙ ap (λ (s : Stop). Err s) (p.2 ∙ c.in_err-write_args.ensures.kind))

pub returns-clause-request : goal.returns-clause-request
returns-clause-request g c = asked_on _ _ _ _ _ _ _ _ _ _ _ _ c.in_ok-selected.ensures.selected c.in_ok-write_args.ensures.ok c.connect.ensures.connected

pub returns-in_err-piece-clause-early : goal.returns-in_err-piece-clause-early
returns-in_err-piece-clause-early g c =
    let r = c.from_residual in
    let p = err_from_is_err_and r.result r.ensures.1 in
    early_short _ r.result (p.1 ∙ ap (λ (s : Stop). Err s) p.2)

pub returns-in_err-selected-clause-early : goal.returns-in_err-selected-clause-early
returns-in_err-selected-clause-early g c =
    let r = c.from_residual-in_err-selected in
    let p = err_from_is_err_and r.result r.ensures.1 in
    early_on _ _ r.result c.in_err-selected.ensures.early (p.1 ∙ ap (λ (s : Stop). Err s) p.2)

pub returns-in_err-write_args-clause-early : goal.returns-in_err-write_args-clause-early
returns-in_err-write_args-clause-early g c =
    let r = c.from_residual-in_err-write_args in
    let p = err_from_is_err_and r.result r.ensures.1 in
    early_unwritten _ r.result tt (p.1 ∙ ap (λ (s : Stop). Err s) (p.2 ∙ c.in_err-write_args.ensures.kind))

pub returns-clause-early : goal.returns-clause-early
returns-clause-early g c = early_end _ _ c.connect.ensures.early
