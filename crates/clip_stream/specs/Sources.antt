-- What a source of pasted text is still to give, and what it has given (this project's own).
use Rattle.std.specs.Prelude.{◌≡◌, ◌<◌, ◌≤◌, ◌⊎◌, ℕ, ◌+◌, min, List, length, [], ◌++◌, take, drop, Bool, true, false, ◌||◌, ◌&&◌, nat_lt, Option, option_map}
use Rattle.gate_outside.specs.Edge.{AtEnd, Rose, came, most_faults, one_more}
use Rattle.guac_framing.specs.Found.{IsUnfinished}
use Rattle.clip_stream.specs.Clips.{Clip}
use Rattle.clip_stream.specs.Pasted.{has_some, pasted_on}
use Rattle.clip_stream.specs.declared.paster.Paster.{Paster}
use Rattle.clip_stream.specs.declared.source.ClipSource.{ClipSource}

-- of the held bytes and of those that come, where all is given as it is or not, and so many of those held are kept
abbrev pub unread_of : Bool → ℕ → Clip → List ℕ → List ℕ → List ℕ
unread_of true kept clip held more = held ++ more
unread_of false kept clip held more = take kept held ++ pasted_on clip (drop kept held ++ more)

-- of these bytes, what counts: at the source's end nothing comes any more
abbrev pub counted : Bool → List ℕ → List ℕ
counted true more = []
counted false more = more

-- what is still to be given, where these bytes come
abbrev pub rest_of : Paster → List ℕ → List ℕ
rest_of s more = s.clip.waiting ++ unread_of s.is_raw s.kept s.clip.clip s.held (counted s.is_ended more)

-- the source was at its end
abbrev pub has_ended : Paster → Bool
has_ended s = s.is_ended

-- something can be given at once
abbrev pub waits : Paster → Bool
waits s = has_some s.clip.waiting || (nat_lt 0 s.kept || (s.is_raw && has_some s.held))

-- nothing can, and the source is to be read
abbrev pub IsDone : Paster → Type 0
IsDone s = ((s.is_raw ≡ true) × (s.held ≡ [])) ⊎ IsUnfinished s.held

-- more can be fed
abbrev pub HasRoom : Paster → Type 0
HasRoom s = length s.held < 8192

-- the same is still to be given, whatever comes
abbrev pub Keeps : Paster → Paster → Type 0
Keeps s t = (more : List ℕ) → rest_of t more ≡ rest_of s more

-- these bytes were given, whatever comes
abbrev pub Gave : Paster → Paster → List ℕ → Type 0
Gave s t given = (more : List ℕ) → rest_of s more ≡ given ++ rest_of t more

-- bytes came from a source that has left this before and after, and bytes were given, as is due for those that came,
-- whatever comes next. Once the source was at its end it isn't read any more
pub record Went (before after : Option (List ℕ)) (s t : Paster) (given : List ℕ) : Type 0 where
  pub read : List ℕ
  pub came_is : before ≡ came read after
  pub so : (more : List ℕ) → (has_ended t ≡ true → more ≡ []) → rest_of s (read ++ more) ≡ given ++ rest_of t more
  pub stays : has_ended s ≡ true → (read ≡ []) × (has_ended t ≡ true)
  pub ends : has_ended t ≡ true → (has_ended s ≡ true) ⊎ AtEnd after

-- .. where at least so many came
abbrev pub WentFar : ℕ → Option (List ℕ) → Option (List ℕ) → Paster → Paster → List ℕ → Type 0
WentFar n before after s t given = (went : Went before after s t given) × (n ≤ length went.read)

-- nothing is to be given any more, whatever comes
abbrev pub IsOver : Paster → Type 0
IsOver s = (has_ended s ≡ true) × ((more : List ℕ) → rest_of s more ≡ [])

-- what is still to be given by what a source has left
abbrev pub on_left : Paster → Option (List ℕ) → Option (List ℕ)
on_left s o = option_map (rest_of s) o

module _ {S : Type 0} where
  -- the inner source
  abbrev pub source_of : ClipSource S → S
  source_of s = s.source

  abbrev pub pastes_of : ClipSource S → Paster
  pastes_of s = s.pastes

  -- how many reads were given up
  abbrev pub given_up : ClipSource S → ℕ
  given_up s = s.given_up

  -- what is still to be given
  abbrev pub left_of : (S → Option (List ℕ)) → ClipSource S → Option (List ℕ)
  left_of left s = on_left s.pastes (left s.source)

  -- the inner source's faults and the reads that were given up
  abbrev pub faults_of : (S → ℕ) → ClipSource S → ℕ
  faults_of faults s = min (faults s.source + s.given_up) most_faults

  -- bytes came from the inner source, and bytes were given
  abbrev pub Gives : (S → Option (List ℕ)) → ClipSource S → ClipSource S → List ℕ → Type 0
  Gives left s t given = Went (left s.source) (left t.source) s.pastes t.pastes given

  -- a read failed: the inner source did, or 2^64 - 1 reads of it brought nothing to give, which is counted
  abbrev pub Fails : (S → Option (List ℕ)) → (S → ℕ) → ClipSource S → ClipSource S → Type 0
  Fails left faults s t =
      (Gives left s t [] × Rose (faults s.source) (faults t.source) × (t.given_up ≡ s.given_up))
      ⊎ (WentFar most_faults (left s.source) (left t.source) s.pastes t.pastes [] × (t.given_up ≡ one_more s.given_up))
