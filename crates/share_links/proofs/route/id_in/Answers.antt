use Rattle.guac_handshake.proofs.InMemory.{is_none}
use Rattle.share_links.proofs.route.id_in.Goals as goal

pub returns-in-Err : goal.returns-in-Err
returns-in-Err c = is_none _ c.in-Err.ensures.ok.1
