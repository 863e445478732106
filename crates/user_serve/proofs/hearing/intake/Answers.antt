use Rattle.user_serve.proofs.Heard.{intake_ran}
use Rattle.user_serve.proofs.hearing.intake.Goals as goal

pub returns-clause-ran : goal.returns-clause-ran
returns-clause-ran g c =
    let s = c.hear_all-end.ensures.stopped in
    (s.0, s.1, intake_ran _ _ _ _ _ _ _ _ c.hear_all-end.result c.hear_all-end.ensures.stays.viewer s.2 c.leave_after.ensures.leaves)
