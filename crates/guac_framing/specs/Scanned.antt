-- What the reader has read of a length, a value and a character, from where it starts to a place.
use Rattle.std.specs.Prelude.{◌≡◌, ℕ, ◌+◌, true, List, ◌++◌, length, take, encode_utf8_all}
use Rattle.std.specs.Str.{all_scalars}
use Rattle.std.specs.Char.{IsScalar, encode_utf8}
use Rattle.gate_model.specs.text.Spelling.{AllDigits, number_of}
use Rattle.guac_framing.specs.Begun.{Begins}

-- digits that spell the number
pub record HasDigits (bytes : List ℕ) (start at n : ℕ) : Type 0 where
  pub digits : List ℕ
  pub split : take at bytes ≡ take start bytes ++ digits
  pub all : AllDigits digits
  pub value : number_of digits ≡ n
  pub count : start + length digits ≡ at

-- characters, of n all but those that are left
pub record HasChars (bytes : List ℕ) (start at n left : ℕ) : Type 0 where
  pub chars : List ℕ
  pub scalars : all_scalars chars ≡ true
  pub split : take at bytes ≡ take start bytes ++ encode_utf8_all chars
  pub count : length chars + left ≡ n

-- the first bytes of a character
pub record HasBegun (bytes : List ℕ) (start at n least most : ℕ) : Type 0 where
  pub begun : List ℕ
  pub split : take at bytes ≡ take start bytes ++ begun
  pub begins : Begins begun n least most
  pub count : start + length begun ≡ at

-- one character, from start to end
abbrev pub EndsCharacter : List ℕ → ℕ → ℕ → Type 0
EndsCharacter bytes start end = (c : ℕ) × IsScalar c × (take end bytes ≡ take start bytes ++ encode_utf8 c)
