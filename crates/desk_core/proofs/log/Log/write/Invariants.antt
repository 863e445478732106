use Rattle.std.proofs.Common.{◌∷◌}
use Rattle.gate_model.specs.declared.entry.Entry.TheVariants.{Write}
use Rattle.desk_core.proofs.log.Log.write.Given as goal

abbrev pub ghosts-named : goal.ghosts-named
ghosts-named a = record { list = Write a.told.now.1 a.told.now.2.now ∷ a.told.now.0.now.items }
