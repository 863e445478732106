use Rattle.std.proofs.Common.{[], ◌∷◌}
use Rattle.std.specs.Prelude.{Ok}
use Rattle.gate_model.specs.declared.answer.Answer.TheVariants.{Close as closed}
use Rattle.gate_model.specs.declared.event.Event.TheVariants.{Close}
use Rattle.turn_lock.specs.Turns.{view_in}
use Rattle.shared_desk.specs.Called.{Answers}
use Rattle.shared_desk.proofs.member.Member.close.Given as goal

abbrev pub ghosts-end_turn : goal.ghosts-end_turn
ghosts-end_turn g a = record { adds = λ e. Answers (Close a.told.now.0) (Ok (closed a.told.now.1.now)) [] [] (view_in a.turn).seen (e ∷ []) }
