use Rattle.std.proofs.Common.{◌∙◌}
use Rattle.user_serve.proofs.showing.outlet.Goals as goal

pub returns-clause-ran : goal.returns-clause-ran
returns-clause-ran g c =
    let s = c.show_all-end.ensures.ran in
    (s.0, c.finish.ensures.unchanged ∙ s.1, s.2)
