use Rattle.desk_core.proofs.laws.desks_are_whole.Goals as goal

pub returns : goal.returns
returns c = λ d h s. c.histories_are_whole.ensures.whole h s.legal s.drawn s.restoring s.growing
