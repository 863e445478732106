use Rattle.std.proofs.Common.{List, subst, sym}
use Rattle.gate_model.specs.declared.act.Act.{Act}
use Rattle.ws_tunnel.specs.Heard.{IsMessage}
use Rattle.ws_tunnel.proofs.Replies.{unread, unread_own}
use Rattle.ws_tunnel.proofs.answering.answer.Goals as goal

pub returns-in-Ok-clause-ran : goal.returns-in-Ok-clause-ran
returns-in-Ok-clause-ran g c = c.answer_acts.ensures.ran _ (subst (λ (acts : List Act). IsMessage c.args.message.now acts) (sym c.as_slice.ensures) c.in-Ok.ensures.read)

pub returns-in-Err-clause-ran : goal.returns-in-Err-clause-ran
returns-in-Err-clause-ran g c = λ left. unread _ _ _ left _ c.in-Err.end c.in-Err.ensures.read

pub returns-in-Err-clause-own : goal.returns-in-Err-clause-own
returns-in-Err-clause-own g c = unread_own c.in-Err.end _ c.in-Err.ensures.read
