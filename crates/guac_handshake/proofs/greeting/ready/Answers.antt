use Rattle.std.proofs.Common.{Err, ap, refl, sym, ◌∙◌}
use Rattle.guac_handshake.specs.declared.stop.Stop.{Stop}
use Rattle.guac_handshake.proofs.Causes.{stopped_write}
use Rattle.guac_handshake.proofs.Touching.{told_kept}
use Rattle.guac_handshake.proofs.greeting.ready.Goals as goal

pub returns-in-Err-clause-writes : goal.returns-in-Err-clause-writes
returns-in-Err-clause-writes g c = (λ e. c.in-Err.ensures.writes.0 (ap (λ (s : Stop). Err s) (stopped_write c.in-Err.stop (sym c.stopped.ensures ∙ e))), c.write_ready.ensures.writes.1)

pub returns-in-Ok-clause-keeps : goal.returns-in-Ok-clause-keeps
returns-in-Ok-clause-keeps g c = record { sessions = told_kept _ _; out = refl; asked = refl; helper = refl }
