-- Laws of characters and control functions, which public functions of `laws::controls` prove.
use Rattle.std.specs.Prelude.{◌≡◌, ◌↔◌, ◌<◌, ℕ, List, ◌++◌, length, IsTrue, encode_utf8, encode_utf8_all}
use Rattle.std.specs.Char.{IsScalar}
use Rattle.std.specs.Str.Lossy.{utf8_lossy}
use Rattle.gate_model.specs.terminal.Characters.{is_unfinished, pending, settled, characters}
use Rattle.gate_model.specs.terminal.Controls.{controls, unfinished}
use Rattle.gate_model.specs.Sequences.{BeginsWith}

-- to read on from what is held back is to read the whole list
pub record ReadsOn {B : Type 0} (read_of : List ℕ → List B) (rest_of : List ℕ → List ℕ) (first second : List ℕ) : Type 0 where
  pub given : read_of (first ++ second) ≡ read_of first ++ read_of (rest_of first ++ second)
  pub held : rest_of (first ++ second) ≡ rest_of (rest_of first ++ second)

-- the characters of bytes are the same however the bytes are cut
abbrev pub CharactersOfAnyCutting : Type 0
CharactersOfAnyCutting = (first second : List ℕ) → ReadsOn characters pending first second

-- the control functions of characters are the same however the characters are cut
abbrev pub ControlsOfAnyCutting : Type 0
ControlsOfAnyCutting = (first second : List ℕ) → ReadsOn controls unfinished first second

-- what the first bytes of a stream give stays, whatever follows them
abbrev pub GivenControlsStay : Type 0
GivenControlsStay = (first second : List ℕ) → BeginsWith (controls (characters (first ++ second))) (controls (characters first))

-- some character's bytes begin with these, and go on
abbrev pub BeginsCharacter : List ℕ → Type 0
BeginsCharacter bytes = (c : ℕ) × (more : List ℕ) × IsScalar c × (0 < length more) × (encode_utf8 c ≡ bytes ++ more)

-- what is held back is just what may still become a character
abbrev pub UnfinishedBeginsCharacter : Type 0
UnfinishedBeginsCharacter = (bytes : List ℕ) → IsTrue (is_unfinished bytes) ↔ BeginsCharacter bytes

-- the characters are the text that `String::from_utf8_lossy` makes of the bytes before those held back
abbrev pub CharactersAreLossy : Type 0
CharactersAreLossy = (bytes : List ℕ) → (encode_utf8_all (characters bytes) ≡ utf8_lossy (settled bytes)) × (settled bytes ++ pending bytes ≡ bytes)
