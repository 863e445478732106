-- How a session is closed at its link's end (this project's own).
use Rattle.std.specs.Prelude.{◌≡◌, ◌⊎◌, true, List, [], ◌∷◌, ◌++◌}
use Rattle.gate_model.specs.declared.cause.Cause.{Cause}
use Rattle.gate_model.specs.declared.cause.Cause.TheVariants as cause
use Rattle.gate_model.specs.declared.entry.Entry.{Entry}
use Rattle.gate_model.specs.declared.entry.Entry.TheVariants.{Close}
use Rattle.gate_model.specs.session.History.{is_closed}
use Rattle.gate_model.specs.session.Steps.{Legal}
use Rattle.gate_model.specs.Sequences.{IsLater}
use Rattle.turn_lock.specs.declared.view.View.{View}
use Rattle.shared_desk.specs.Own.{own_entries}
use Rattle.session_link.specs.declared.ends.PumpEnd.{PumpEnd}
use Rattle.session_link.specs.declared.ends.PumpEnd.TheVariants.{LinkEnded, ReadFault, Closed, Worn, NoMemory}

-- no Close, or one with this cause
abbrev pub MayClose : Cause → List Entry → Type 0
MayClose cause closes = (closes ≡ []) ⊎ (closes ≡ Close cause ∷ [])

-- the session was closed before this call, or is closed by it with this cause
pub record HasClosed (cause : Cause) (v w : View Entry) : Type 0 where
  pub later : IsLater v.seen w.seen
  pub closes : List Entry
  pub few : MayClose cause closes
  pub own : own_entries w ≡ closes ++ own_entries v
  pub closed : is_closed w.seen ≡ true
  pub legal : Legal w.seen

-- what a pump's end asks for
abbrev pub HasEnded : PumpEnd → View Entry → View Entry → Type 0
HasEnded LinkEnded v w = HasClosed cause.ServerEnd v w
HasEnded ReadFault v w = HasClosed cause.LinkFault v w
HasEnded Worn v w = HasClosed cause.Worn v w
HasEnded (Closed cause) v w = w ≡ v
HasEnded NoMemory v w = w ≡ v
