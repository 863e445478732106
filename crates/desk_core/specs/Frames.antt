-- What a desk keeps of the frames (this project's own).
use Rattle.std.specs.Prelude.{◌≡◌, ℕ, List, [], ◌∷◌, ◌++◌, None, flat_map, option_map, unwrap_or}
use Rattle.std.specs.List.{last_or}
use Rattle.gate_model.specs.declared.instr.Instr.{Instr}
use Rattle.gate_model.specs.text.Text.{texts}
use Rattle.gate_model.specs.session.History.{History, frames, newest, newest_frame}
use Rattle.display_history.specs.Keeping.{HistoryState, HasKept, last_stamp, nothing}
use Rattle.display_history.specs.Laws.{texts_of}

-- the frames that are kept for viewers who are behind, the text of the newest frame, kept or not, and the newest stamp
pub record FramesState : Type 0 where
  pub kept : HistoryState
  pub newest : List ℕ
  pub stamp : ℕ

-- there was no frame yet
abbrev pub no_frames : FramesState
no_frames = record { kept = nothing; newest = []; stamp = 0 }

-- the text of the newest frame: that of the last which is kept, or, where none is, what stands beside them
abbrev pub newest_text : List (ℕ × List ℕ) → List ℕ → List ℕ
newest_text kept beside = unwrap_or (option_map (λ f. f.1) (last_or None kept)) beside

-- what is kept are the last of some frames, of which the newest has the stamp
abbrev pub EndsAt : HistoryState → ℕ → Type 0
EndsAt kept stamp = (all : List (ℕ × List ℕ)) × HasKept kept all × (last_stamp 0 all ≡ stamp)

-- the texts of frames, joined
abbrev pub joined_texts : List (ℕ × List ℕ) → List ℕ
joined_texts fs = flat_map (λ f. f.1) fs

-- ---- what a feed makes of it

-- one frame more
pub record AddsFrame (old new : FramesState) (t : ℕ) (frame : List Instr) : Type 0 where
  pub kept : (all : List (ℕ × List ℕ)) → HasKept old.kept all → HasKept new.kept (all ++ (t, texts frame) ∷ [])
  pub stamp : new.stamp ≡ t
  pub newest : new.newest ≡ texts frame

-- ---- what it says of the history

-- the frames of the history: those are kept that may be, and the others are gone
pub record HasFrames (f : FramesState) (h : History) : Type 0 where
  pub kept : HasKept f.kept (texts_of (frames h))
  pub stamp : f.stamp ≡ newest h
  pub newest : f.newest ≡ texts (newest_frame h)
