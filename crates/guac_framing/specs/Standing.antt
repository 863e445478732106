-- Where the end of some bytes stands in an instruction. Elements are counted with a `,` before each, as
-- if one stood before the first.
use Rattle.std.specs.Prelude.{◌≡◌, ℕ, ◌+◌, ◌<◌, ◌≤◌, true, List, ◌∷◌, ◌++◌, length, encode_utf8_all}
use Rattle.std.specs.Str.{all_scalars}
use Rattle.gate_model.specs.Limits.{most_elements}
use Rattle.gate_model.specs.text.Spelling.{AllDigits, IsLength, SpellsOthers}

-- elements, and the digits of the next one's length so far
pub record InLength (front : List ℕ) (values : List (List ℕ)) (digits : List ℕ) : Type 0 where
  pub done : List ℕ
  pub others : SpellsOthers done values
  pub few : length values < most_elements
  pub split : 44 ∷ front ≡ done ++ 44 ∷ digits
  pub all : AllDigits digits

-- elements, a length, `.`, and these characters of the value; so many are left
pub record InValue (front : List ℕ) (values : List (List ℕ)) (chars : List ℕ) (left : ℕ) : Type 0 where
  pub done : List ℕ
  pub others : SpellsOthers done values
  pub few : length values < most_elements
  pub digits : List ℕ
  pub scalars : all_scalars chars ≡ true
  pub counted : IsLength digits (length chars + left)
  pub split : 44 ∷ front ≡ done ++ 44 ∷ digits ++ 46 ∷ encode_utf8_all chars

-- elements, the last with its whole value
pub record BehindValue (front : List ℕ) (values : List (List ℕ)) : Type 0 where
  pub others : SpellsOthers (44 ∷ front) values
  pub count : length values ≤ most_elements
