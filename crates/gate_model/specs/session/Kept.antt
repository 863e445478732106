-- The frames that are kept for viewers who are behind (this project's own).
use Rattle.std.specs.Prelude.{◌≡◌, ℕ, ◌+◌, List, [], ◌∷◌, length, Bool, ◌&&◌, nat_le, if◌then◌else◌}
use Rattle.gate_model.specs.declared.instr.Instr.{Instr}
use Rattle.gate_model.specs.Limits.{most_kept_frames, most_kept_text}
use Rattle.gate_model.specs.text.Text.{texts}
use Rattle.gate_model.specs.session.History.{History, frames, frames_after}

-- the bytes of the text of frames, each with its stamp
abbrev pub text_size : List (ℕ × List Instr) → ℕ
text_size [] = 0
text_size (f ∷ fs) = length (texts f.1) + text_size fs

-- so many frames, with so much text, may be kept
abbrev pub may_be_kept : List (ℕ × List Instr) → Bool
may_be_kept fs = nat_le (length fs) most_kept_frames && nat_le (text_size fs) most_kept_text

-- the longest end of the frames that may
abbrev pub kept_of : List (ℕ × List Instr) → List (ℕ × List Instr)
kept_of [] = []
kept_of (f ∷ fs) = if may_be_kept (f ∷ fs) then f ∷ fs else kept_of fs

abbrev pub kept : History → List (ℕ × List Instr)
kept h = kept_of (frames h)

-- every frame above the stamp t is kept
abbrev pub Covers : History → ℕ → Type 0
Covers h t = frames_after t (frames h) ≡ frames_after t (kept h)

-- the stamp of the last frame of a list; of an empty list it is the stamp before it
abbrev pub last_stamp_from : ℕ → List (ℕ × List Instr) → ℕ
last_stamp_from t [] = t
last_stamp_from t (f ∷ fs) = last_stamp_from f.0 fs
