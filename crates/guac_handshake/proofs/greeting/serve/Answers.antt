use Rattle.std.proofs.Common.{◌∙◌, Err, ap, rules}
use Rattle.guac_handshake.specs.Doors.{Grants}
use Rattle.guac_handshake.specs.Views.{MayRefuse, Names}
use Rattle.guac_handshake.proofs.Endings.{serve_err, serve_ok}
use Rattle.guac_handshake.specs.declared.refused.Refused.{Refused}
use Rattle.guac_handshake.proofs.Causes.{error_fresh, ready_fresh, ready_not_refused, told_busy, told_dial}
use Rattle.guac_handshake.proofs.Touching.{named_on, touched_ready, touched_refused}
use Rattle.guac_handshake.proofs.greeting.serve.Goals as goal

pub returns-in-Ok-clause-served : goal.returns-in-Ok-clause-served
returns-in-Ok-clause-served g c = serve_ok (MayRefuse g.D.Door.id_of (g.D.Door.view c.args.door.now) (g.D.Door.view c.ready.new.door)) (Names g.D.Door.id_of (g.D.Door.view c.args.door.now) (g.D.Door.view c.ready.new.door)) (λ d. Grants (g.D.Door.begun d) (g.D.Door.joined d)) c.ask.new.door c.ready.new.door c.args.request.now _ _ _ _ _ _ (c.ready.ensures.keeps.asked ∙ c.in-Ok.ensures.answers.asked)
    (named_on g.D.Door.id_of (g.D.Door.view c.args.door.now) (g.D.Door.view c.ask.new.door) (g.D.Door.view c.ready.new.door) c.args.request.now _ c.ready.ensures.keeps.sessions c.in-Ok.ensures.answers.named) c.in-Ok.ensures.granted c.ready.ensures.same c.ready.ensures.told

pub returns-in-Err-clause-served : goal.returns-in-Err-clause-served
returns-in-Err-clause-served g c = serve_err (MayRefuse g.D.Door.id_of (g.D.Door.view c.args.door.now) (g.D.Door.view c.ask.new.door)) (Names g.D.Door.id_of (g.D.Door.view c.args.door.now) (g.D.Door.view c.ask.new.door)) (Grants (g.D.Door.begun c.ask.new.door) (g.D.Door.joined c.ask.new.door)) c.args.request.now _ _ _ _ c.in-Err.refused _ _ c.in-Err.ensures.answers.kind c.status_of.ensures c.in-Err.ensures.answers.asked c.refuse.ensures.told

pub returns-in-Ok-clause-touches : goal.returns-in-Ok-clause-touches
returns-in-Ok-clause-touches g c = record {
  out = search rules;
  sessions = touched_ready g.D.Door.id_of _ _ _ c.args.request.now _ _ _ _ c.in-Ok.ensures.answers.sessions c.ready.ensures.keeps.sessions c.ready.ensures.told;
}

pub returns-in-Err-clause-touches : goal.returns-in-Err-clause-touches
returns-in-Err-clause-touches g c = record {
  out = search rules;
  sessions = touched_refused g.D.Door.id_of _ _ _ _ c.args.request.now _ c.in-Err.refused _ c.status_of.ensures c.in-Err.ensures.answers.sessions c.refuse.ensures.told;
}

pub returns-in-Ok-clause-faults : goal.returns-in-Ok-clause-faults
returns-in-Ok-clause-faults g c = record {
  dials = (λ e. absurd (ready_not_refused _ _ _ 519 _ c.ready.ensures.told e), search rules);
  starts = (λ e. absurd (ready_not_refused _ _ _ 513 _ c.ready.ensures.told e), search rules);
}

pub returns-in-Err-clause-faults : goal.returns-in-Err-clause-faults
returns-in-Err-clause-faults g c =
    let faults = c.in-Err.ensures.answers.helper in
    record {
      dials = (λ e. faults.dials.0 (ap (λ (r : Refused). Err r) (told_dial _ _ c.in-Err.refused _ _ c.status_of.ensures c.refuse.ensures.told e)), faults.dials.1);
      starts = (λ e. faults.starts.0 (ap (λ (r : Refused). Err r) (told_busy _ _ c.in-Err.refused _ _ c.status_of.ensures c.refuse.ensures.told e)), faults.starts.1);
    }

pub returns-in-Ok-clause-fresh : goal.returns-in-Ok-clause-fresh
returns-in-Ok-clause-fresh g c = ready_fresh _ _ _ _ _ c.in-Ok.ensures.fresh c.ready.ensures.told

pub returns-in-Err-clause-fresh : goal.returns-in-Err-clause-fresh
returns-in-Err-clause-fresh g c = error_fresh _ _ _ _ _ c.refuse.ensures.told
