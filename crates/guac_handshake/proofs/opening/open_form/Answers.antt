use Rattle.std.proofs.Common.{◌∙◌, ap, inr, List, Option, rules}
use Rattle.guac_handshake.specs.Doors.{asked_more, logged_for}
use Rattle.guac_handshake.specs.declared.request.Request.{Request}
use Rattle.guac_handshake.proofs.Askable.{form_asks}
use Rattle.guac_handshake.proofs.Refusing.{may_before, names_before}
use Rattle.guac_handshake.proofs.opening.open_form.Goals as goal

pub ask-requires-clause-may : goal.ask-requires-clause-may
ask-requires-clause-may g c = search (rules, form_asks c.args.body.now c.in_ok-request.request c.in_ok-request.ensures.form)

pub returns-in-Ok-clause-answers : goal.returns-in-Ok-clause-answers
returns-in-Ok-clause-answers g c = record {
  opened = (
    c.in_ok-request.request,
    c.in_ok-request.ensures.form,
    c.in-Ok.ensures.answers.asked ∙ ap (λ (l : Option (List Request)). asked_more l c.in_ok-request.request) c.is_there.ensures.looks.asked,
    names_before g.D.Door.id_of (g.D.Door.view c.args.door.now) (g.D.Door.view c.is_there.new.door) (g.D.Door.view c.ask.new.door) c.is_there.ensures.looks c.in_ok-request.request _ c.in-Ok.ensures.answers.named,
    c.in-Ok.ensures.granted,
  );
  moves = search rules;
  faults = search rules;
}

pub returns-clause-answers : goal.returns-clause-answers
returns-clause-answers g c = record {
  opened = (
    c.in_ok-request.request,
    c.in_ok-request.ensures.form,
    inr (
      may_before g.D.Door.id_of (g.D.Door.view c.args.door.now) (g.D.Door.view c.is_there.new.door) (g.D.Door.view c.ask.new.door) c.is_there.ensures.looks c.in_ok-request.request c.in-Err.refused c.in-Err.ensures.answers.kind,
      c.in-Err.ensures.answers.asked ∙ ap (λ (l : Option (List Request)). logged_for l c.in_ok-request.request c.in-Err.refused) c.is_there.ensures.looks.asked,
    ),
  );
  moves = search rules;
  faults = search rules;
}
