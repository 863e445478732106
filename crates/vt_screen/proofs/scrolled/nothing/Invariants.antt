use Rattle.std.proofs.Common.{[]}
use Rattle.vt_screen.proofs.scrolled.nothing.Given as goal

abbrev pub ghosts-named : goal.ghosts-named
ghosts-named a = record { list = [] }
