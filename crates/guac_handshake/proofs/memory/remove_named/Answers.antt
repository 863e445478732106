use Rattle.guac_handshake.proofs.InMemory.{not_removed, removed}
use Rattle.guac_handshake.proofs.memory.remove_named.Goals as goal

pub returns-in-None : goal.returns-in-None
returns-in-None c = not_removed _ _ c.in-None.ensures

pub returns : goal.returns
returns c = removed _ _ _ _ c.in-Some.ensures c.remove.ensures.changed
