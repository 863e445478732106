use Rattle.std.specs.Prelude.{Err, [], ◌∷◌}
use Rattle.gate_model.specs.declared.event.Event.TheVariants.{Join}
use Rattle.desk_core.specs.Calls.{join_answer}
use Rattle.turn_lock.specs.Turns.{view_in}
use Rattle.shared_desk.specs.Called.{Answers}
use Rattle.shared_desk.proofs.member.Member.refuse.Given as goal

abbrev pub ghosts-end_turn : goal.ghosts-end_turn
ghosts-end_turn g a = record { adds = λ e. Answers (Join a.told.now.0) (join_answer (Err a.told.now.1.now)) [] [] (view_in a.turn).seen (e ∷ []) }
