use Rattle.std.proofs.Common.{[], ◌∷◌}
use Rattle.gate_model.specs.declared.event.Event.TheVariants.{Resize}
use Rattle.desk_core.specs.Calls.{resize_answer}
use Rattle.turn_lock.specs.Turns.{view_in}
use Rattle.shared_desk.specs.Called.{Answers}
use Rattle.shared_desk.proofs.member.Member.resize.Given as goal

abbrev pub ghosts-end_turn : goal.ghosts-end_turn
ghosts-end_turn g a = record { adds = λ e. Answers (Resize a.told.now.0 a.told.now.1 a.told.now.2) (resize_answer a.told.now.3.now) [] [] (view_in a.turn).seen (e ∷ []) }
