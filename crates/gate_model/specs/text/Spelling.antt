-- What spells an instruction (the Guacamole manual, "The Guacamole protocol"; leading zeros and the
-- limits are this project's own). An element is a list of code points; the text is bytes.
use Rattle.std.specs.Prelude.{◌≡◌, ℕ, ◌+◌, ◌-◌, ◌*◌, ◌≤◌, true, List, [], ◌∷◌, ◌++◌, length, encode_utf8_all}
use Rattle.std.specs.Str.{all_scalars}
use Rattle.gate_model.specs.Limits.{most_bytes, most_elements}

-- an ASCII digit
abbrev pub IsDigit : ℕ → Type 0
IsDigit b = (48 ≤ b) × (b ≤ 57)

abbrev pub AllDigits : List ℕ → Type 0
AllDigits [] = Unit {0}
AllDigits (b ∷ bs) = IsDigit b × AllDigits bs

-- the number of the digits read so far, and then of these
abbrev pub number_after : ℕ → List ℕ → ℕ
number_after n [] = n
number_after n (b ∷ bs) = number_after (10 * n + (b - 48)) bs

abbrev pub number_of : List ℕ → ℕ
number_of digits = number_after 0 digits

-- the digits of a length: 1 to 5, leading zeros among them
pub record IsLength (digits : List ℕ) (n : ℕ) : Type 0 where
  pub all : AllDigits digits
  pub some : 1 ≤ length digits
  pub short : length digits ≤ 5
  pub value : number_of digits ≡ n

-- the number of the code points, `.`, and their UTF-8
abbrev pub SpellsElement : List ℕ → List ℕ → Type 0
SpellsElement bytes value = (digits : List ℕ) × IsLength digits (length value) × (all_scalars value ≡ true) × (bytes ≡ digits ++ 46 ∷ encode_utf8_all value)

-- elements that aren't the first, each with `,` before it
abbrev pub SpellsOthers : List ℕ → List (List ℕ) → Type 0
SpellsOthers bytes [] = bytes ≡ []
SpellsOthers bytes (value ∷ values) = (own rest : List ℕ) × SpellsElement own value × (bytes ≡ 44 ∷ own ++ rest) × SpellsOthers rest values

-- an opcode, the other elements, and `;`
abbrev pub SpellsElements : List ℕ → List (List ℕ) → Type 0
SpellsElements bytes [] = ⊥
SpellsElements bytes (opcode ∷ others) = (own rest : List ℕ) × SpellsElement own opcode × SpellsOthers rest others × (bytes ≡ own ++ rest ++ 59 ∷ [])

pub record Spells (bytes : List ℕ) (elements : List (List ℕ)) : Type 0 where
  pub spelled : SpellsElements bytes elements
  pub count : length elements ≤ most_elements
  pub size : length bytes ≤ most_bytes

-- no spelling is a proper prefix of another, and none has two meanings
abbrev pub SpellingsArePrefixFree : Type 0
SpellingsArePrefixFree = (a b x y : List ℕ) (first second : List (List ℕ)) → Spells a first → Spells b second → a ++ x ≡ b ++ y → (a ≡ b) × (first ≡ second)
