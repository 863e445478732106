-- How a viewer leaves (this project's own).
use Rattle.std.specs.Prelude.{◌≡◌, ◌⊎◌, ℕ, false, List, [], ◌∷◌, ◌++◌, Contains}
use Rattle.gate_model.specs.declared.entry.Entry.{Entry}
use Rattle.gate_model.specs.declared.entry.Entry.TheVariants.{Leave}
use Rattle.gate_model.specs.session.History.{History}
use Rattle.gate_model.specs.session.Rights.{is_live}
use Rattle.gate_model.specs.session.Steps.{Legal}
use Rattle.turn_lock.specs.declared.view.View.{View}
use Rattle.shared_desk.specs.Own.{own_entries}
use Rattle.viewer_acts.specs.Doing.{GoesOn}

-- none, or one Leave of the viewer
abbrev pub MayLeave : ℕ → List Entry → Type 0
MayLeave viewer leaves = (leaves ≡ []) ⊎ (leaves ≡ Leave viewer ∷ [])

-- the viewer has left
pub record HasLeft (viewer : ℕ) (seen : History) : Type 0 where
  pub gone : is_live seen viewer ≡ false
  pub left : Contains seen (Leave viewer)

-- the viewer leaves, but where it had left, and has left then
pub record LeftNow (viewer : ℕ) (v w : View Entry) : Type 0 where
  pub goes_on : GoesOn v w
  pub leaves : List Entry
  pub few : MayLeave viewer leaves
  pub own : own_entries w ≡ leaves ++ own_entries v
  pub legal : Legal w.seen
  pub gone : HasLeft viewer w.seen
