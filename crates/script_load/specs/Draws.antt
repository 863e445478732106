-- Where a run of rounds stands.
use Rattle.std.specs.Prelude.{◌≡◌}
use Rattle.script_load.specs.declared.rounds.Rounds.{Rounds}
use Rattle.script_load.specs.Words.{drawn}
use Rattle.script_load.specs.Rounds.{Stand, stand_after}

-- it has drawn its rounds under its seed, and stands where they leave the words and the viewers
abbrev pub stand_of : Rounds → Stand
stand_of r = stand_after (drawn r.seed) r.round

pub record IsDrawn (r : Rounds) : Type 0 where
  pub seed : r.draws.seed ≡ r.seed
  pub place : r.draws.place ≡ (stand_of r).drawn
  pub others : r.others.items ≡ (stand_of r).others
  pub joined : r.joined ≡ (stand_of r).joined
