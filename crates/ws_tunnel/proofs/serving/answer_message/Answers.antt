use Rattle.std.proofs.Common.{◌∙◌, ℕ, List, [], ◌∷◌, refl, ap, sym, arith}
use Rattle.ws_tunnel.specs.Links.{sent_messages}
use Rattle.ws_tunnel.specs.declared.ends.WsEnd.TheVariants.{LinkFault}
use Rattle.ws_tunnel.proofs.Openings.{same_end, sent_none}
use Rattle.ws_tunnel.proofs.Replies.{next_sent_as, next_stopped, next_unsent, own_end}
use Rattle.ws_tunnel.proofs.serving.answer_message.Goals as goal

pub returns-in-Ok-send-clause-ran : goal.returns-in-Ok-send-clause-ran
returns-in-Ok-send-clause-ran g c = (
  c.answer.new.text.items ∷ [],
  c.in-Ok-send.ensures.sent ∙ ap (λ (bs : List ℕ). sent_messages (g.M.Messages.sent c.args.link.now) (bs ∷ [])) c.deref.ensures.value,
  next_sent_as _ _ _ _ _ _ _ c.answer.new.text.items c.in-Ok.over c.go_on.result c.go_on.ensures c.in-Ok.ensures.ran,
)

pub returns-in-Ok-clause-ran : goal.returns-in-Ok-clause-ran
returns-in-Ok-clause-ran g c = ([], c.in-Err-send.ensures.sent ∙ sym (sent_none _), next_unsent _ _ _ _ _ _ _ c.answer.new.text.items c.in-Ok.over c.in-Err-send.end c.in-Err-send.ensures.kind c.in-Ok.ensures.ran)

pub returns-clause-ran : goal.returns-clause-ran
returns-clause-ran g c = ([], sym (sent_none _), next_stopped _ _ _ _ _ _ _ c.answer.new.text.items c.in-Err.end c.in-Err.ensures.ran)

pub returns-clause-faults : goal.returns-clause-faults
returns-clause-faults g c = (λ is. absurd (own_end c.in-Err.end c.in-Err.ensures.own (same_end _ c.in-Err.end LinkFault refl is)), omega arith)
