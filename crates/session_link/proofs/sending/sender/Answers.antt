use Rattle.std.proofs.Common.{◌∙◌}
use Rattle.session_link.proofs.Sent.{sender_ran}
use Rattle.session_link.proofs.sending.sender.Goals as goal

pub returns-clause-ran : goal.returns-clause-ran
returns-clause-ran g c =
    let s = c.send_all-end.ensures.halted in
    (s.0, c.finish.ensures.unchanged ∙ s.1, sender_ran _ _ _ s.0 c.send_all-end.result s.2 c.shut_after.ensures.shut)
