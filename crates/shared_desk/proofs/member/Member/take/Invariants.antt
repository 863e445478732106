use Rattle.std.proofs.Common.{[], ◌∷◌}
use Rattle.gate_model.specs.declared.event.Event.TheVariants.{Take}
use Rattle.turn_lock.specs.Turns.{view_in}
use Rattle.shared_desk.specs.Called.{Answers, take_answer}
use Rattle.shared_desk.proofs.member.Member.take.Given as goal

abbrev pub ghosts-end_turn : goal.ghosts-end_turn
ghosts-end_turn g a = record { adds = λ e. Answers (Take a.told.now.0) (take_answer a.told.now.2.now a.told.now.1.now) [] [] (view_in a.turn).seen (e ∷ []) }
