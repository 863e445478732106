use Rattle.ws_tunnel.proofs.Putting.{puts_as}
use Rattle.ws_tunnel.proofs.answering.put.Goals as goal

pub returns-clause-put : goal.returns-clause-put
returns-clause-put g c = puts_as _ _ _ _ _ c.write_acts-written.result _ c.write_acts-written.ensures.stays.viewer c.put_of.ensures c.write_acts-written.ensures.wrote c.history_is_sound.ensures.sound c.history_is_sound.ensures.knows
