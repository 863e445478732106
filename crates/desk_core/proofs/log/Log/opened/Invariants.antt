use Rattle.std.proofs.Common.{◌∷◌, []}
use Rattle.gate_model.specs.declared.entry.Entry.TheVariants.{Start}
use Rattle.desk_core.proofs.log.Log.opened.Given as goal

abbrev pub ghosts-named : goal.ghosts-named
ghosts-named a = record { list = Start a.told.now.0.now.cols a.told.now.0.now.rows a.told.now.0.now.mode a.told.now.0.now.term a.told.now.0.now.faces a.told.now.0.now.entries a.told.now.1 a.told.now.2.now ∷ [] }
