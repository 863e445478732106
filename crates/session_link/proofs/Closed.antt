-- A session that is closed at its link's end.
use Rattle.std.proofs.Common.{◌≡◌, ◌++◌, [], ◌∙◌}
use Rattle.std.specs.Prelude.{Result, Ok}
use Rattle.gate_model.specs.declared.answer.Answer.TheVariants.{Close as was_closed}
use Rattle.gate_model.specs.declared.cause.Cause.{Cause}
use Rattle.gate_model.specs.declared.closed.Closed.{Closed}
use Rattle.gate_model.specs.declared.entry.Entry.{Entry}
use Rattle.gate_model.specs.declared.event.Event.TheVariants.{Close as close}
use Rattle.turn_lock.specs.declared.view.View.{View}
use Rattle.shared_desk.specs.Called.{Called}
use Rattle.shared_desk.proofs.Lasting.{close_adds, turn_later, turn_legal}
use Rattle.session_link.specs.Closings.{HasClosed}

pub has_closed : (v w : View Entry) (c : Cause) (r : Result (Unit {0}) Closed) → Called v (close c) (Ok (was_closed r)) w → HasClosed c v w
has_closed v w c r t =
    let k = close_adds v w c r t in record {
      later = turn_later v w _ t;
      closes = k.closes;
      few = k.few;
      own = k.own;
      closed = k.closed;
      legal = turn_legal v w _ t;
    }
