use Rattle.std.proofs.Common.{◌∷◌}
use Rattle.desk_core.proofs.log.Log.add.Given as goal

abbrev pub ghosts-named : goal.ghosts-named
ghosts-named a = record { list = a.told.now.1.now ∷ a.told.now.0.now.items }
