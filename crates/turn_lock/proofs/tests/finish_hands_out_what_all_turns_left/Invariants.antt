use Rattle.std.proofs.Common.{[], ◌∷◌, false}
use Rattle.turn_lock.proofs.tests.finish_hands_out_what_all_turns_left.Given as goal

abbrev pub ghosts-new : goal.ghosts-new
ghosts-new g a = record { list = false ∷ false ∷ false ∷ [] }
