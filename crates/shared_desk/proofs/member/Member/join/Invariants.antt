use Rattle.std.proofs.Common.{[], ◌∷◌, take}
use Rattle.gate_model.specs.declared.event.Event.TheVariants.{Join}
use Rattle.desk_core.specs.Calls.{join_answer}
use Rattle.turn_lock.specs.Turns.{view_in}
use Rattle.shared_desk.specs.Called.{Answers}
use Rattle.shared_desk.proofs.member.Member.join.Given as goal

abbrev pub ghosts-end_turn : goal.ghosts-end_turn
ghosts-end_turn g a = record { adds = λ e. Answers (Join a.told.now.0) (join_answer a.told.now.1.now) (take a.told.now.2 a.told.now.3.now.items) a.told.now.3.now.items (view_in a.turn).seen (e ∷ []) }
