use Rattle.ws_tunnel.proofs.Openings.{asks_denied, asks_in, denied, let_in}
use Rattle.ws_tunnel.proofs.serving.ws_serve.Goals as goal

pub returns-in-Ok-clause-served : goal.returns-in-Ok-clause-served
returns-in-Ok-clause-served g c = let_in _ _ _ _ _ _ _ _ c.in-Ok.welcome _ _ c.admit.result.place c.admit.result.end c.admit.ensures.ran c.in-Ok.ensures.opened

pub returns-in-Ok-clause-asked : goal.returns-in-Ok-clause-asked
returns-in-Ok-clause-asked g c = asks_in _ _ _ _ _ _ _ _ c.in-Ok.welcome _ _ c.admit.result.place c.admit.result.end c.admit.ensures.ran c.in-Ok.ensures.opened

pub returns-in-Err-clause-served : goal.returns-in-Err-clause-served
returns-in-Err-clause-served g c = denied _ _ _ _ _ _ _ _ c.in-Err.end c.in-Err.ensures.opened

pub returns-in-Err-clause-asked : goal.returns-in-Err-clause-asked
returns-in-Err-clause-asked g c = asks_denied _ _ _ _ _ _ _ _ c.in-Err.end c.in-Err.ensures.opened
