use Rattle.std.proofs.Common.{ℕ, ◌<◌, get_or, length}
use Rattle.gate_model.specs.declared.event.Event.{Event as Calls}
use Rattle.gate_model.specs.session.Calls.{MeetsCondition}
use Rattle.try_screen.proofs.desks.events_of.Given as goal

-- each call so far meets its condition
abbrev pub invariant-loop-call : goal.invariant-loop-call
invariant-loop-call l =
    (goal.iterator-loop-call).can_next l.call-iterator ×
    (goal.iterator-loop-call).is_finite l.call-iterator ×
    ((i : ℕ) (other : Calls) → i < length l.list.items → MeetsCondition (get_or l.list.items i other))
