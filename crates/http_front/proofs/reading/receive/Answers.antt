use Rattle.std.proofs.Common.{◌∙◌, Err, ap, subst, sym}
use Rattle.std.proofs.lemmas.Result.{err_from_is_err_and}
use Rattle.http_front.specs.declared.stop.Stop.{Stop}
use Rattle.http_front.specs.Requests.{IsTaken}
use Rattle.http_front.proofs.Growing.{handed_on, taken_more}
use Rattle.http_front.proofs.reading.receive.Goals as goal

pub returns-in_err-read_body-clause-stopped : goal.returns-in_err-read_body-clause-stopped
returns-in_err-read_body-clause-stopped g c =
    let moved = c.read_body.ensures.moved in
    let r = c.from_residual-in_err-read_body in
    let p = err_from_is_err_and r.result r.ensures.1 in
    handed_on c.read_head.new.room.items moved.0 c.read_body.new.room.items c.in_ok-head.head c.read_body.result c.from_residual-in_err-read_body.result c.in_err-read_body.field-0.0 c.in_ok-head.ensures.taken.0 moved.2 c.in_err-read_body.ensures.short c.in_err-read_body.was c.read_body.ensures.kind (p.1 ∙ ap (λ (s : Stop). Err s) p.2)

pub returns-clause-received : goal.returns-clause-received
returns-clause-received g c = record {
  taken = subst (λ bytes. IsTaken bytes c.in_ok-head.head) (sym c.in_ok-read_body.ensures.moved.2) (taken_more c.read_head.new.room.items c.in_ok-read_body.ensures.moved.0 c.in_ok-head.head c.in_ok-head.ensures.taken.0);
  small = c.in_ok-head.ensures.taken.1;
  whole = c.in_ok-read_body.ensures.whole;
}
