use Rattle.std.proofs.Common.{◌∙◌, [], sym}
use Rattle.ws_tunnel.proofs.Replies.{next_none}
use Rattle.ws_tunnel.proofs.Openings.{came_none, sent_none}
use Rattle.ws_tunnel.proofs.serving.answer_next.Goals as goal

pub returns-in-Err-clause-ran : goal.returns-in-Err-clause-ran
returns-in-Err-clause-ran g c = ([], [], sym c.in-Err.ensures.none.0 ∙ sym (came_none _), c.receive.ensures.sent ∙ sym (sent_none _), next_none _ _ _ _ _ c.in-Err.end c.in-Err.ensures.none.0 c.in-Err.ensures.none.1)
