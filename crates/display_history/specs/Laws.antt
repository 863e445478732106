-- The laws about what is kept, which public functions of `laws` prove: what they say of the frames of a session's
-- history, as gate_model has it.
use Rattle.std.specs.Prelude.{◌≡◌, ◌↔◌, ℕ, ◌<◌, ◌≤◌, List, [], ◌∷◌, ◌++◌, None, Some, length, map, IsTrue}
use Rattle.std.specs.List.{last_or}
use Rattle.gate_model.specs.declared.instr.Instr.{Instr}
use Rattle.gate_model.specs.Limits.{most_kept_frames, most_kept_text}
use Rattle.gate_model.specs.text.Text.{texts}
use Rattle.gate_model.specs.session.History.{History, frames, frames_after}
use Rattle.gate_model.specs.session.Kept.{kept_of, Covers}
use Rattle.gate_model.specs.session.Steps.{Legal}
use Rattle.display_history.specs.Keeping.{text_bytes, kept_end, after_stamp, last_stamp, HistoryState, newest, covers, HasKept}

-- each frame with its text in place of its instructions
abbrev pub texts_of : List (ℕ × List Instr) → List (ℕ × List ℕ)
texts_of fs = map (λ f. (f.0, texts f.1)) fs

-- the texts of the frames that are kept are those that are kept of the texts
abbrev pub TextsAreKept : Type 0
TextsAreKept = (fs : List (ℕ × List Instr)) → texts_of (kept_of fs) ≡ kept_end (texts_of fs)

-- the texts of the frames above a stamp are those of the texts above it
abbrev pub TextsGoAfter : Type 0
TextsGoAfter = (t : ℕ) (fs : List (ℕ × List Instr)) → texts_of (frames_after t fs) ≡ after_stamp t (texts_of fs)

-- the newest stamp is that of the last frame
abbrev pub NewestIsLast : Type 0
NewestIsLast = (s : HistoryState) (all : List (ℕ × List ℕ)) → HasKept s all → newest s ≡ last_stamp 0 all

-- of all frames the newest is the last that is kept; where its text alone is beyond the limit none is kept
abbrev pub NewestIsKept : Type 0
NewestIsKept = (fs : List (ℕ × List ℕ)) (f : ℕ × List ℕ)
    → (length f.1 ≤ most_kept_text → last_or None (kept_end (fs ++ f ∷ [])) ≡ Some f) × (most_kept_text < length f.1 → kept_end (fs ++ f ∷ []) ≡ [])

-- within both limits
abbrev pub KeptAreFew : Type 0
KeptAreFew = (s : HistoryState) (all : List (ℕ × List ℕ)) → HasKept s all → (length s.kept ≤ most_kept_frames) × (text_bytes s.kept ≤ most_kept_text)

-- the comparison tells whether every frame of the session's history above a stamp is kept
abbrev pub CoversHistory : Type 0
CoversHistory = (h : History) → Legal h → (s : HistoryState) → HasKept s (texts_of (frames h)) → (t : ℕ) → IsTrue (covers s t) ↔ Covers h t
