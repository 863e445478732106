use Rattle.user_serve.proofs.Heard.{refused_as}
use Rattle.user_serve.proofs.hearing.write.Goals as goal

pub returns-in-Err-clause-wrote : goal.returns-in-Err-clause-wrote
returns-in-Err-clause-wrote g c = refused_as _ _ c.args.act _ _ _ _ c.write_acts.ensures.stays.viewer c.end_of.ensures c.history_is_sound.ensures.sound c.history_is_sound.ensures.knows c.in-Err.ensures.wrote
