-- What the text of a script's line `write N TEXT` says (this project's own): instructions of a client (the
-- Guacamole manual, "The Guacamole protocol"), one after the other. An instruction is the list of its elements.
use Rattle.std.specs.Prelude.{◌≡◌, ◌≢◌, ℕ, ◌+◌, ◌≤◌, List, [], ◌∷◌, ◌++◌, length, Option, Some, None}
use Rattle.gate_model.specs.session.Calls.{IsWrite}
use Rattle.gate_model.specs.text.ClientMeaning.{act_of}
use Rattle.gate_model.specs.declared.act.Act.{Act}
use Rattle.guac_framing.specs.Found.{IsUnfinished, IsBadAt}
use Rattle.guac_framing.specs.Splits.{Splits}
use Rattle.guac_framing.specs.declared.next.BadAt.{BadAt}
use Rattle.script_grammar.specs.declared.reading.Reading.{Reading}
use Rattle.script_grammar.specs.declared.reading.Reading.TheVariants.{Whole, Cut, Bad, TooMany}

-- the most instructions of a text
abbrev pub most_instructions : ℕ
most_instructions = 4096

-- the act, or none
abbrev pub acts_from : Option Act → List Act
acts_from (Some act) = act ∷ []
acts_from None = []

-- the acts of the instructions that have a meaning, in order
abbrev pub acts_of : List (List (List ℕ)) → List Act
acts_of [] = []
acts_of (e ∷ es) = acts_from (act_of e) ++ acts_of es

-- one more without a meaning, or not
abbrev pub passed_from : Option Act → ℕ
passed_from (Some act) = 0
passed_from None = 1

-- how many instructions have no meaning
abbrev pub passed_of : List (List (List ℕ)) → ℕ
passed_of [] = 0
passed_of (e ∷ es) = passed_from (act_of e) + passed_of es

-- whole instructions to the text's end
pub record IsWhole (text : List ℕ) (acts : List Act) (passed : ℕ) : Type 0 where
  pub instructions : List (List (List ℕ))
  pub splits : Splits text instructions []
  pub few : length instructions ≤ most_instructions
  pub acts_are : acts ≡ acts_of instructions
  pub passed_is : passed ≡ passed_of instructions

-- whole instructions, and from the place on one that isn't finished
pub record IsCut (text : List ℕ) (place : ℕ) : Type 0 where
  pub instructions : List (List (List ℕ))
  pub rest : List ℕ
  pub splits : Splits text instructions rest
  pub few : length instructions ≤ most_instructions
  pub some : rest ≢ []
  pub place_is : place + length rest ≡ length text
  pub unfinished : IsUnfinished rest

-- whole instructions, and then one with a bad byte; the place is counted from the text's beginning
pub record IsBad (text : List ℕ) (at : BadAt) : Type 0 where
  pub instructions : List (List (List ℕ))
  pub rest : List ℕ
  pub splits : Splits text instructions rest
  pub few : length instructions ≤ most_instructions
  pub own : BadAt
  pub bad : IsBadAt rest own
  pub kind_is : at.kind ≡ own.kind
  pub place_is : at.place + length rest ≡ length text + own.place

-- one instruction more than there may be, whatever stands behind it
pub record HasTooMany (text : List ℕ) : Type 0 where
  pub instructions : List (List (List ℕ))
  pub rest : List ℕ
  pub splits : Splits text instructions rest
  pub many : length instructions ≡ most_instructions + 1

-- at the front, instructions of which the last has an act: it asks room in the list of acts
pub record AsksRoom (text : List ℕ) : Type 0 where
  pub before : List (List (List ℕ))
  pub last : List (List ℕ)
  pub rest : List ℕ
  pub splits : Splits text (before ++ last ∷ []) rest
  pub few : length before + 1 ≤ most_instructions
  pub act : Act
  pub act_is : act_of last ≡ Some act

abbrev pub IsReading : List ℕ → Reading → Type 0
IsReading text (Whole acts passed) = IsWhole text acts passed
IsReading text (Cut place) = IsCut text place
IsReading text (Bad at) = IsBad text at
IsReading text TooMany = HasTooMany text

-- a viewer may ask for the acts of the reading at once
abbrev pub HasFewActs : Reading → Type 0
HasFewActs (Whole acts passed) = IsWrite acts
HasFewActs (Cut place) = Unit {0}
HasFewActs (Bad at) = Unit {0}
HasFewActs TooMany = Unit {0}
