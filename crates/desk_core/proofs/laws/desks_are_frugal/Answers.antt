use Rattle.desk_core.proofs.laws.desks_are_frugal.Goals as goal

pub returns : goal.returns
returns c = λ d h s. s.frugal
