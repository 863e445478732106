use Rattle.std.proofs.Common.{◌≡◌}
use Rattle.turn_lock.proofs.tests.take_turn.Given as goal

abbrev pub ghosts-end_turn : goal.ghosts-end_turn
ghosts-end_turn g a = record { adds = λ e. e ≡ a.kind }
