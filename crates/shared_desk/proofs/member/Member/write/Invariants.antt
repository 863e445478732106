use Rattle.std.proofs.Common.{[], ◌∷◌}
use Rattle.gate_model.specs.declared.event.Event.TheVariants.{Write}
use Rattle.desk_core.specs.Calls.{write_answer}
use Rattle.turn_lock.specs.Turns.{view_in}
use Rattle.shared_desk.specs.Called.{Answers}
use Rattle.shared_desk.proofs.member.Member.write.Given as goal

abbrev pub ghosts-end_turn : goal.ghosts-end_turn
ghosts-end_turn g a = record { adds = λ e. Answers (Write a.told.now.0 a.told.now.1.now) (write_answer a.told.now.2.now) [] [] (view_in a.turn).seen (e ∷ []) }
