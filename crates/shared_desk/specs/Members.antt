-- What contracts see of a pass (this project's own).
use Rattle.std.specs.Prelude.{◌≡◌, ℕ, ◌≤◌, Bool, true, false, Some, None, length}
use Rattle.atomic_table.specs.Seated.{TableId}
use Rattle.gate_model.specs.declared.entry.Entry.{Entry}
use Rattle.gate_model.specs.session.Cost.{AllFrugal}
use Rattle.gate_model.specs.session.History.{History, joined}
use Rattle.gate_model.specs.session.Steps.{Legal}
use Rattle.gate_model.specs.session.Whole.{Whole}
use Rattle.desk_core.specs.Desk.{Stands}
use Rattle.turn_lock.specs.Passes.{IsNext}
use Rattle.turn_lock.specs.Views.{HasPlaces}
use Rattle.turn_lock.specs.declared.view.View.{View}
use Rattle.shared_desk.specs.declared.held.Held.{Held}
use Rattle.shared_desk.specs.Marks.{mark_of}

-- of which session it is, and what it knows
pub record PassState : Type 0 where
  pub session : TableId
  pub view : View Entry

-- the same of a viewer's pass
pub record ViewerState : Type 0 where
  pub session : TableId
  pub view : View Entry
  pub viewer : ℕ

-- it is still the pass of this viewer of this session
pub record Stays (before after : ViewerState) : Type 0 where
  pub session : after.session ≡ before.session
  pub viewer : after.viewer ≡ before.viewer

-- what a history is that a pass has seen: each entry was added by its rule; what any viewer was given up to a sync
-- leaves what all frames up to it leave, and these show the screen; and each frame, and each picture that a Join or a
-- Read gave, is within its bound
pub record IsSound (h : History) : Type 0 where
  pub legal : Legal h
  pub whole : Whole h
  pub frugal : AllFrugal h

-- what is true of every pass: it has seen a sound history, and its own places are all those of its mark
pub record IsPass (v : View Entry) : Type 0 where
  pub places : HasPlaces mark_of v
  pub sound : IsSound v.seen

-- a pass of this mark that isn't the host's
pub record HasMark (number : ℕ) (v : View Entry) : Type 0 where
  pub mark : v.mark ≡ Some number
  pub not_first : v.given ≡ None

-- it has seen that the viewer joined
pub record KnowsViewer (viewer : ℕ) (v : View Entry) : Type 0 where
  pub first : 1 ≤ viewer
  pub joined : viewer ≤ joined v.seen
  pub begun : 1 ≤ length v.seen

-- a viewer's pass of this mark
pub record IsViewers (number viewer : ℕ) (v : View Entry) : Type 0 where
  pub mark : HasMark number v
  pub knows : KnowsViewer viewer v

-- how a turn ends: with an entry more, which may be added to what is told so, or as it stood
pub record IsEnding (adds : Entry → Type 0) (w : Held) (v : View Entry) (appended : Bool) : Type 0 where
  pub added : appended ≡ true → (e : Entry) × IsNext (λ (x : Held) h. Stands x.desk h) mark_of adds w v e
  pub same : appended ≡ false → Stands w.desk v.seen
