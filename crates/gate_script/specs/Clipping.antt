-- How the words `clip` end: what they read and what they wrote, for each status (this project's own).
use Rattle.std.specs.Prelude.{◌≡◌, ◌⊎◌, ℕ, ◌<◌, ◌≤◌, List, [], ◌++◌, length, take, Option, Result, Ok, Err}
use Rattle.clip_stream.specs.Pasted.{pasted}
use Rattle.clip_stream.specs.Sources.{rest_of}
use Rattle.clip_stream.specs.declared.paster.Paster.{Paster}
use Rattle.gate_model.specs.Sequences.{BeginsWith}
use Rattle.gate_outside.specs.Edge.{AtEnd, came, gained}
use Rattle.gate_outside.specs.declared.failed.Failed.{Failed}

-- the most bytes of the input that are copied
abbrev pub most_clip : ℕ
most_clip = 67108864

-- the statuses of `clip`
abbrev pub IsClipStatus : ℕ → Type 0
IsClipStatus status = (status ≡ 0) ⊎ (status ≡ 4) ⊎ (status ≡ 5) ⊎ (status ≡ 6) ⊎ (status ≡ 11)

-- what each status says of the bytes read and the answers. The frames take nothing
pub record ClipOutcome (status : ℕ) (left : Option (List ℕ)) (bytes a f : List ℕ) : Type 0 where
  pub no_frames : f ≡ []
  pub done : status ≡ 0 → AtEnd left × (length bytes ≤ most_clip) × (a ≡ pasted bytes)
  pub too_long : status ≡ 11 → (most_clip < length bytes) × (a ≡ pasted (take most_clip bytes))
  pub read_fault : status ≡ 4 → BeginsWith (pasted (take most_clip bytes)) a
  pub write_fault : status ≡ 5 → BeginsWith (pasted (take most_clip bytes)) a
  pub memory : status ≡ 6 → (bytes ≡ []) × (a ≡ [])
  pub only : IsClipStatus status

-- ---- before its end

-- these bytes were fed and what is due for them was given, but for what is still to be given
abbrev pub HasGiven : Paster → List ℕ → Paster → List ℕ → Type 0
HasGiven s bytes t given = (more : List ℕ) → rest_of s (bytes ++ more) ≡ given ++ rest_of t more

-- a front of what is due for these bytes, whatever comes behind them
abbrev pub IsFront : Paster → List ℕ → List ℕ → Type 0
IsFront s bytes given = (more : List ℕ) → BeginsWith (rest_of s (bytes ++ more)) given

abbrev pub Given : Result (Unit {0}) Failed → Paster → List ℕ → Paster → List ℕ → Type 0
Given (Ok done) s bytes t given = HasGiven s bytes t given
Given (Err failed) s bytes t given = IsFront s bytes given

-- .. by how the writing ended, and the sink gained it
abbrev pub HasWritten : Result (Unit {0}) Failed → Paster → List ℕ → Paster → Option (List ℕ) → Option (List ℕ) → Type 0
HasWritten result s bytes t wrote wrote' = (given : List ℕ) × (wrote' ≡ gained wrote given) × Given result s bytes t given

-- these bytes were pulled behind all that the sink gained, and wait to be written
abbrev pub HasPulled : Paster → Paster → List ℕ → Option (List ℕ) → Option (List ℕ) → Type 0
HasPulled s t waiting wrote wrote' = (given : List ℕ) × (wrote' ≡ gained wrote given) × HasGiven s [] t (given ++ waiting)

-- so many bytes were read, and of those that count all was written that can be given
pub record Copied (left left' wrote wrote' : Option (List ℕ)) (t : Paster) (read : ℕ) : Type 0 where
  pub bytes : List ℕ
  pub a : List ℕ
  pub came_is : left ≡ came bytes left'
  pub count : length bytes ≡ read
  pub answered : wrote' ≡ gained wrote a
  pub so : (more : List ℕ) → pasted (take most_clip bytes ++ more) ≡ a ++ rest_of t more

-- the end of the input was told: all that was still to be given was written, and then this status comes; or a front of it
abbrev pub EndsWith : ℕ → Type 0 → List ℕ → Option (List ℕ) → Option (List ℕ) → ℕ → Type 0
EndsWith behind Fault rest wrote wrote' status =
    ((status ≡ behind) × (wrote' ≡ gained wrote rest))
    ⊎ ((status ≡ 5) × Fault × (given : List ℕ) × (wrote' ≡ gained wrote given) × BeginsWith rest given)
