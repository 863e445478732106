-- Numbers in words: 1 to 20 decimal digits, as the values of elements have them; leading zeros are read.
use Rattle.std.specs.Prelude.{ℕ, List, Option}
use Rattle.gate_model.specs.text.Numerals.{number_in, number_within}

abbrev pub number_of : List ℕ → Option ℕ
number_of word = number_in word

-- the number, where it is no more than this
abbrev pub number_up_to : ℕ → List ℕ → Option ℕ
number_up_to most word = number_within 0 most word
