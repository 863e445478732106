use Rattle.std.proofs.Common.{◌∷◌}
use Rattle.gate_model.specs.declared.entry.Entry.TheVariants.{Feed}
use Rattle.desk_core.proofs.log.Log.feed.Given as goal

abbrev pub ghosts-named : goal.ghosts-named
ghosts-named a = record { list = Feed a.told.now.1.now a.told.now.2 a.told.now.3.now ∷ a.told.now.0.now.items }
