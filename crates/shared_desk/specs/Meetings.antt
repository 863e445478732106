-- What two passes of a session know once they have met, and what one of them wrote of that (this project's own).
use Rattle.std.specs.Prelude.{◌≡◌, ◌⊎◌, ℕ, max, Bool, false, ◌==◌, if◌then◌else◌, List, [], ◌∷◌, length}
use Rattle.gate_model.specs.declared.entry.Entry.{Entry}
use Rattle.gate_model.specs.declared.entry.Entry.TheVariants.{Write, Size}
use Rattle.gate_model.specs.session.History.{History}
use Rattle.gate_model.specs.Sequences.{IsLater}
use Rattle.turn_lock.specs.Places.{ArePlaces}
use Rattle.turn_lock.specs.Views.{HasPlaces}
use Rattle.turn_lock.specs.declared.view.View.{View}
use Rattle.shared_desk.specs.Marks.{mark_of}
use Rattle.shared_desk.specs.Members.{IsSound}

-- whether the entry is a Write or a Size of the viewer
abbrev pub is_written_by : ℕ → Entry → Bool
is_written_by viewer (Write v acts) = v == viewer
is_written_by viewer (Size v cols rows stamp frame) = v == viewer
is_written_by viewer e = false

-- the Writes and the Sizes of the viewer, the newest first
abbrev pub written_by : ℕ → List Entry → List Entry
written_by viewer [] = []
written_by viewer (e ∷ es) = if is_written_by viewer e then e ∷ written_by viewer es else written_by viewer es

-- it has seen this, and knows so many entries; all else is as before, but for what it last met
abbrev pub after_meeting : History → History → ℕ → View Entry → View Entry
after_meeting seen met known v = record v { seen = seen; met = met; known = known }

-- a pass that knew v has met another: every entry of its mark still stands at a place of its own
pub record HasMet (v : View Entry) (seen : History) (known : ℕ) (v_now : View Entry) : Type 0 where
  pub later : IsLater v.seen seen
  pub sound : IsSound seen
  pub within : ArePlaces (length v.seen) v.mine
  pub met : History
  pub after : v_now ≡ after_meeting seen met known v
  pub places : HasPlaces mark_of v_now

-- both have seen the longer of what they had seen, which both begin, and know the greater number
pub record HaveMet (v w v_now w_now : View Entry) : Type 0 where
  pub seen : History
  pub longer : (seen ≡ v.seen) ⊎ (seen ≡ w.seen)
  pub one : HasMet v seen (max v.known w.known) v_now
  pub other : HasMet w seen (max v.known w.known) w_now
