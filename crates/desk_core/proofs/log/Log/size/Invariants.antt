use Rattle.std.proofs.Common.{◌∷◌}
use Rattle.gate_model.specs.declared.entry.Entry.TheVariants.{Size}
use Rattle.desk_core.proofs.log.Log.size.Given as goal

abbrev pub ghosts-named : goal.ghosts-named
ghosts-named a = record { list = Size a.told.now.1 a.told.now.2 a.told.now.3 a.told.now.4 a.told.now.5.now ∷ a.told.now.0.now.items }
