use Rattle.std.proofs.Common.{◌∷◌}
use Rattle.vt_screen.proofs.scrolled.with.Given as goal

abbrev pub ghosts-named : goal.ghosts-named
ghosts-named a = record { list = a.told.now.1 ∷ a.told.now.0.now.items }
