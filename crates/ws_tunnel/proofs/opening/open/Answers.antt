use Rattle.ws_tunnel.proofs.Openings.{form_came}
use Rattle.ws_tunnel.proofs.opening.open.Goals as goal

pub returns-in-Ok-clause-opened : goal.returns-in-Ok-clause-opened
returns-in-Ok-clause-opened g c = form_came _ _ _ _ _ _ _ _ c.in-Ok.form.items _ _ _ c.open_for.result c.deref.ensures.value c.receive.ensures.sent c.in-Ok.ensures.came c.open_for.ensures.left c.open_for.ensures.opened
