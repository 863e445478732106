-- True history: whatever a viewer was given up to a sync draws the picture of the screen that the
-- history up to that sync leaves.
use Rattle.std.specs.Prelude.{◌≡◌, ℕ, List, [], ◌∷◌, ◌++◌, true}
use Rattle.gate_model.specs.declared.instr.Instr.{Instr}
use Rattle.gate_model.specs.declared.instr.Instr.TheVariants.{Sync}
use Rattle.gate_model.specs.Sequences.{BeginsWith}
use Rattle.gate_model.specs.picture.Layers.{Layers, ShowsPicture, draw, nothing, visible}
use Rattle.gate_model.specs.picture.Frames.{IsDrawn}
use Rattle.gate_model.specs.terminal.Screens.{shown}
use Rattle.gate_model.specs.session.History.{History, at, upto, has_entry_at, all_frames}
use Rattle.gate_model.specs.session.Delivered.{delivered}

-- what was given up to the sync t shows the screen of that sync's entry
pub record IsFaithfulAt (h : History) (front : List Instr) (t : ℕ) : Type 0 where
  pub stamped : has_entry_at h t ≡ true
  pub drawn : ShowsPicture (draw nothing (front ++ Sync t ∷ []) visible) (shown (at (upto h t)))

-- of every viewer, whenever it joined, and of every sync that it was given
abbrev pub Faithful : History → Type 0
Faithful h = (v t : ℕ) (front : List Instr) → BeginsWith (delivered h v) (front ++ Sync t ∷ []) → IsFaithfulAt h front t

-- every layer that the frames of the history leave
abbrev pub all_layers : History → Layers
all_layers h = draw nothing (all_frames h)

-- each frame, after the frames before it, leaves the picture of its moment's screen
abbrev pub AllDrawn : History → Type 0
AllDrawn [] = Unit {0}
AllDrawn (e ∷ g) = AllDrawn g × IsDrawn (all_layers (e ∷ g) visible) (shown (at (e ∷ g)))
