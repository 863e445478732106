use Rattle.std.proofs.Common.{Ok, Err, ap, sym, ◌∙◌, arith, rules}
use Rattle.std.proofs.lemmas.Result.{err_from_is_err_and}
use Rattle.gate_model.specs.text.HelloMeaning.{greeting_of}
use Rattle.guac_handshake.specs.declared.stop.Stop.{Stop}
use Rattle.guac_handshake.specs.declared.stop.Stop.TheVariants.{Refused}
use Rattle.guac_handshake.specs.Greetings.{OutOfForm}
use Rattle.gate_model.specs.text.Statuses.{bad_request}
use Rattle.guac_handshake.proofs.Behind.{connected, connected_many, connected_stop, read_more, read_none, said_asks, said_bad, said_is, said_others, said_sizes, values_of}
use Rattle.guac_handshake.proofs.Causes.{early_heard}
use Rattle.guac_handshake.proofs.greeting.connect.Goals as goal
use Rattle.guac_handshake.proofs.greeting.connect.Goals.{in-Size, in-Other}

pub reading-init : goal.reading-init
reading-init g c = record { so_far = read_none _ _; room = c.requires; later = omega arith }

pub returns-in_err-request-clause-connected : goal.returns-in_err-request-clause-connected
returns-in_err-request-clause-connected g c =
    let r = c.from_residual in
    let p = err_from_is_err_and r.result r.ensures.1 in
    connected_stop c.args.selected.now _ _ _ _ _ _ _ _ _ _ _ c.reading.invariant.so_far (omega (arith, c.reading-test.true)) c.in_err-request.ensures.heard (p.1 ∙ ap (λ (s : Stop). Err s) p.2)

pub returns-in-Ask-clause-connected : goal.returns-in-Ask-clause-connected
returns-in-Ask-clause-connected g c =
    let so = c.reading.invariant.so_far in
    let h = c.in_ok-request.ensures.heard in
    let v = values_of _ _ _ _ _ _ _ _ so _ _ h in
    let f = said_asks c.args.selected.now v c.reading.size (greeting_of v) c.in-Ask.request (sym c.in-Ask.is ∙ said_is _ _ _ _ _ _ _ _ so _ _ h) in
    connected _ _ _ _ _ _ _ _ so _ _ h c.args.selected.now (Ok c.in-Ask.request) f.0 (omega (arith, c.reading-test.true)) f.1

pub returns-in-Bad-clause-connected : goal.returns-in-Bad-clause-connected
returns-in-Bad-clause-connected g c =
    let so = c.reading.invariant.so_far in
    let h = c.in_ok-request.ensures.heard in
    let v = values_of _ _ _ _ _ _ _ _ so _ _ h in
    let f = said_bad c.args.selected.now v c.reading.size (greeting_of v) (sym c.in-Bad.is ∙ said_is _ _ _ _ _ _ _ _ so _ _ h) in
    connected _ _ _ _ _ _ _ _ so _ _ h c.args.selected.now (Err (Refused bad_request)) f.0 (omega (arith, c.reading-test.true)) (OutOfForm f.1)

pub reading-preserved : goal.reading-preserved
reading-preserved g c =
    let so = c.reading.invariant.so_far in
    let h = c.in_ok-request.ensures.heard in
    let v = values_of _ _ _ _ _ _ _ _ so _ _ h in
    let is = said_is _ _ _ _ _ _ _ _ so _ _ h in
    record {
      so_far = elim c.match-branch-2.branch [
        | in-Size w ↦ (let f = said_sizes c.args.selected.now v c.reading.size (greeting_of v) _ (sym w.in-Size.is ∙ is) in read_more _ _ _ _ _ _ _ _ so _ _ h c.match-branch-2.size f.0 (w.size-is ∙ f.1))
        | in-Other w ↦ (let f = said_others c.args.selected.now v c.reading.size (greeting_of v) (sym w.in-Other.is ∙ is) in read_more _ _ _ _ _ _ _ _ so _ _ h c.match-branch-2.size f.0 (w.size-is ∙ f.1))
      ];
      room = search rules;
      later = omega (arith, c.reading.invariant.later, c.hear.ensures.reads.1);
    }

pub returns-clause-connected : goal.returns-clause-connected
returns-clause-connected g c = connected_many c.args.selected.now _ _ _ _ _ _ c.reading.invariant.so_far (omega arith)

pub returns-in_err-request-clause-early : goal.returns-in_err-request-clause-early
returns-in_err-request-clause-early g c =
    let r = c.from_residual in
    let p = err_from_is_err_and r.result r.ensures.1 in
    early_heard _ _ _ _ _ _ r.result c.in_err-request.ensures.heard (p.1 ∙ ap (λ (s : Stop). Err s) p.2)
