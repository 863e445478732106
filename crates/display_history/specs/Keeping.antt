-- What is kept of a session's frames for viewers who are behind, and what it stands for (this project's own). A frame
-- is its stamp and the bytes of its text. `Kept` of gate_model says the same of frames as lists of instructions.
use Rattle.std.specs.Prelude.{◌≡◌, ℕ, ◌+◌, ◌<◌, List, [], ◌∷◌, ◌++◌, length, filter, Bool, ◌&&◌, nat_lt, nat_le, if◌then◌else◌, ⊤}
use Rattle.gate_model.specs.Limits.{most_kept_frames, most_kept_text}

-- the bytes of the texts of frames
abbrev pub text_bytes : List (ℕ × List ℕ) → ℕ
text_bytes [] = 0
text_bytes (f ∷ fs) = length f.1 + text_bytes fs

-- so many frames, with so much text, may be kept
abbrev pub may_stay : List (ℕ × List ℕ) → Bool
may_stay fs = nat_le (length fs) most_kept_frames && nat_le (text_bytes fs) most_kept_text

-- the longest end of the frames that may
abbrev pub kept_end : List (ℕ × List ℕ) → List (ℕ × List ℕ)
kept_end [] = []
kept_end (f ∷ fs) = if may_stay (f ∷ fs) then f ∷ fs else kept_end fs

-- the frames above a stamp
abbrev pub after_stamp : ℕ → List (ℕ × List ℕ) → List (ℕ × List ℕ)
after_stamp t fs = filter (λ f. nat_lt t f.0) fs

-- the stamp of the last frame of a list; of an empty list it is the stamp before it
abbrev pub last_stamp : ℕ → List (ℕ × List ℕ) → ℕ
last_stamp t [] = t
last_stamp t (f ∷ fs) = last_stamp f.0 fs

-- each stamp is above the one before, the first above t
abbrev pub AreRising : ℕ → List (ℕ × List ℕ) → Type 0
AreRising t [] = ⊤
AreRising t (f ∷ fs) = (t < f.0) × AreRising f.0 fs

-- the kept frames, oldest first, and the stamp of the last frame that is gone, 0 where none is
pub record HistoryState : Type 0 where
  pub kept : List (ℕ × List ℕ)
  pub gone : ℕ

-- no frame was pushed
abbrev pub nothing : HistoryState
nothing = record { kept = []; gone = 0 }

-- the stamp of the newest frame, kept or gone; 0 where there was none
abbrev pub newest : HistoryState → ℕ
newest s = last_stamp s.gone s.kept

-- every frame above the stamp is kept
abbrev pub covers : HistoryState → ℕ → Bool
covers s t = nat_le s.gone t

-- all the frames that were pushed, oldest first: what is kept are the last of them, within the limits, and the stamp
-- is that of the last frame before those
pub record HasKept (s : HistoryState) (all : List (ℕ × List ℕ)) : Type 0 where
  pub rising : AreRising 0 all
  pub before : List (ℕ × List ℕ)
  pub cut : all ≡ before ++ s.kept
  pub gone : s.gone ≡ last_stamp 0 before
  pub kept : s.kept ≡ kept_end all

-- there are frames that were pushed
abbrev pub IsHistory : HistoryState → Type 0
IsHistory s = (all : List (ℕ × List ℕ)) × HasKept s all

-- the oldest frame, of that stamp, is taken away
abbrev pub TakesOldest : List (ℕ × List ℕ) → ℕ → List (ℕ × List ℕ) → Type 0
TakesOldest old stamp new = (text : List ℕ) × (old ≡ (stamp, text) ∷ new)
