use Rattle.session_link.proofs.Pumped.{pump_ran}
use Rattle.session_link.proofs.pumping.pump.Goals as goal

pub returns-clause-ran : goal.returns-clause-ran
returns-clause-ran g c =
    let s = c.feed_all-end.ensures.stopped in
    (s.0, s.1, pump_ran _ _ _ s.0 c.feed_all-end.result s.2 c.close_after.ensures.ended)
