use Rattle.std.proofs.Common.{refl, ◌∙◌}
use Rattle.ws_tunnel.proofs.Openings.{readied, unready}
use Rattle.ws_tunnel.proofs.serving.serve.Goals as goal

pub returns-in_default-clause-ran : goal.returns-in_default-clause-ran
returns-in_default-clause-ran g c = unready _ _ _ _ _ _ _ _ _ _ c.requires.start tt refl refl

pub returns-in-Ok-send-clause-ran : goal.returns-in-Ok-send-clause-ran
returns-in-Ok-send-clause-ran g c = readied _ _ _ _ _ _ _ _ _ _ _ _ _ _ (c.deref.ensures.value ∙ c.in-Ok.ensures) c.send.ensures.left c.in-Ok-send.ensures.sent c.answer_all.ensures.ran

pub returns-clause-ran : goal.returns-clause-ran
returns-clause-ran g c = unready _ _ _ _ _ _ _ _ _ c.in-Err.end c.requires.start c.in-Err.ensures.kind c.send.ensures.left c.in-Err.ensures.sent
