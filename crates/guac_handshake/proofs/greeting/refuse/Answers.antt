use Rattle.std.proofs.Common.{Err, ap, sym, ◌∙◌}
use Rattle.guac_handshake.specs.declared.stop.Stop.{Stop}
use Rattle.guac_handshake.proofs.Causes.{stopped_write}
use Rattle.guac_handshake.proofs.greeting.refuse.Goals as goal

pub returns-in-Err-clause-writes : goal.returns-in-Err-clause-writes
returns-in-Err-clause-writes g c = (λ e. c.in-Err.ensures.writes.0 (ap (λ (s : Stop). Err s) (stopped_write c.in-Err.stop (sym c.stopped.ensures ∙ e))), c.write_error.ensures.writes.1)
