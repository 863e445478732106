-- Laws about the kept frames, which public functions of `laws::frames` prove.
use Rattle.std.specs.Prelude.{◌≡◌, ◌↔◌, ℕ, ◌≤◌, List, ◌∷◌, ◌++◌, length, false}
use Rattle.gate_model.specs.declared.instr.Instr.{Instr}
use Rattle.gate_model.specs.Limits.{most_kept_frames, most_kept_text}
use Rattle.gate_model.specs.session.History.{History, frames, frames_after}
use Rattle.gate_model.specs.session.Kept.{text_size, may_be_kept, kept_of, kept, Covers, last_stamp_from}
use Rattle.gate_model.specs.session.Steps.{Legal}

-- the kept frames are the last ones
abbrev pub KeptAreLast : Type 0
KeptAreLast = (fs : List (ℕ × List Instr)) → (gone : List (ℕ × List Instr)) × (fs ≡ gone ++ kept_of fs)

-- .. within both limits
abbrev pub KeptAreFew : Type 0
KeptAreFew = (fs : List (ℕ × List Instr)) → (length (kept_of fs) ≤ most_kept_frames) × (text_size (kept_of fs) ≤ most_kept_text)

-- .. and with the one before them they aren't
abbrev pub KeptAreAll : Type 0
KeptAreAll = (fs gone : List (ℕ × List Instr)) (f : ℕ × List Instr) → fs ≡ gone ++ f ∷ kept_of fs → may_be_kept (f ∷ kept_of fs) ≡ false

-- of frames and more of them those are kept that are kept of the kept ones and those more
abbrev pub KeptGoOn : Type 0
KeptGoOn = (fs more : List (ℕ × List Instr)) → kept_of (fs ++ more) ≡ kept_of (kept_of fs ++ more)

-- the frames above a stamp are kept exactly where no frame that is gone has a higher one
abbrev pub CoversByStamp : Type 0
CoversByStamp = (h : History) → Legal h → (gone : List (ℕ × List Instr)) → frames h ≡ gone ++ kept h → (t : ℕ) → (last_stamp_from 0 gone ≤ t) ↔ Covers h t

-- a viewer who is covered lacks few frames
abbrev pub CoveredLackFew : Type 0
CoveredLackFew = (h : History) (t : ℕ) → Covers h t → length (frames_after t (frames h)) ≤ most_kept_frames
