-- What the front of some bytes is (the Guacamole manual, "The Guacamole protocol"; the place and the kind
-- of a fault are this project's own).
use Rattle.std.specs.Prelude.{◌≡◌, ◌≢◌, ℕ, suc, ◌+◌, ◌<◌, ◌≤◌, List, [], ◌∷◌, ◌++◌, length, take, slice_index}
use Rattle.std.specs.Char.{IsScalar, encode_utf8}
use Rattle.gate_model.specs.terminal.ControlLaws.{BeginsCharacter}
use Rattle.gate_model.specs.Limits.{most_elements}
use Rattle.gate_model.specs.text.Spelling.{IsDigit, SpellsElements, Spells}
use Rattle.guac_framing.specs.declared.next.BadAt.{BadAt}
use Rattle.guac_framing.specs.declared.next.BadKind.{BadKind}
use Rattle.guac_framing.specs.declared.next.BadKind.TheVariants.{Digit, Length, Separator, Utf8, TooMany, TooLong}
use Rattle.guac_framing.specs.Standing.{InLength, InValue, BehindValue}

-- no front of the bytes is an instruction
abbrev pub HasNoInstruction : List ℕ → Type 0
HasNoInstruction bytes = (n : ℕ) (elements : List (List ℕ)) → Spells (take n bytes) elements → ⊥

-- some continuation of the bytes is an instruction
abbrev pub HasCompletion : List ℕ → Type 0
HasCompletion bytes = (rest : List ℕ) × (elements : List (List ℕ)) × Spells (bytes ++ rest) elements

-- no front is an instruction yet, and some continuation is
pub record IsUnfinished (bytes : List ℕ) : Type 0 where
  pub none : HasNoInstruction bytes
  pub completion : HasCompletion bytes

-- the first byte through which no continuation has an instruction at its front
pub record IsBadPlace (bytes : List ℕ) (place : ℕ) : Type 0 where
  pub within : place < length bytes
  pub before : HasCompletion (take place bytes)
  pub through : (rest : List ℕ) → HasNoInstruction (take (place + 1) bytes ++ rest)

-- in a value, no character continues with the byte b
pub record IsForbidden (front : List ℕ) (b : ℕ) : Type 0 where
  pub values : List (List ℕ)
  pub chars : List ℕ
  pub left : ℕ
  pub due : List ℕ
  pub begun : List ℕ
  pub split : front ≡ due ++ begun
  pub value : InValue due values chars (suc left)
  pub begins : BeginsCharacter begun
  pub forbids : (c : ℕ) (rest : List ℕ) → IsScalar c → encode_utf8 c ≢ begun ++ b ∷ rest

-- why the byte b is bad behind the front
abbrev pub HasKind : List ℕ → ℕ → BadKind → Type 0
-- no digit where a length must start, or neither a digit nor `.` in a length
HasKind front b Digit = (values : List (List ℕ)) × (digits : List ℕ) × InLength front values digits × (IsDigit b → ⊥) × (b ≡ 46 → digits ≡ [])
-- a sixth digit of a length
HasKind front b Length = (values : List (List ℕ)) × (digits : List ℕ) × InLength front values digits × (length digits ≡ 5) × IsDigit b
-- neither `,` nor `;` behind a value
HasKind front b Separator = (values : List (List ℕ)) × BehindValue front values × (b ≢ 44) × (b ≢ 59)
-- UTF-8 forbids the byte at its place
HasKind front b Utf8 = IsForbidden front b
-- a `,` behind element 128
HasKind front b TooMany = (values : List (List ℕ)) × BehindValue front values × (length values ≡ most_elements) × (b ≡ 44)
-- none of these: a continuation spells elements, but each has too many bytes
HasKind front b TooLong = (rest : List ℕ) × (elements : List (List ℕ)) × SpellsElements (front ++ b ∷ rest) elements × (length elements ≤ most_elements)

-- no other kind holds there
abbrev pub HasOneKind : List ℕ → BadAt → Type 0
HasOneKind bytes at = (other : BadKind) → HasKind (take at.place bytes) (slice_index bytes at.place) other → other ≡ at.kind

-- the place is the first bad one, and the kind alone is why
pub record IsBadAt (bytes : List ℕ) (at : BadAt) : Type 0 where
  pub place : IsBadPlace bytes at.place
  pub kind : HasKind (take at.place bytes) (slice_index bytes at.place) at.kind
  pub one_kind : HasOneKind bytes at
