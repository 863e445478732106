-- The reader's answer about some bytes.
use Rattle.std.specs.Prelude.{◌≡◌, ℕ, ◌≤◌, List, map, length, take, encode_utf8_all}
use Rattle.gate_model.specs.text.Spelling.{Spells}
use Rattle.guac_framing.specs.declared.next.BadAt.{BadAt}
use Rattle.guac_framing.specs.declared.next.Next.{Next}
use Rattle.guac_framing.specs.declared.next.Next.TheVariants.{Whole, More, Bad}
use Rattle.guac_framing.specs.declared.next.Stop.{Stop}
use Rattle.guac_framing.specs.declared.next.Stop.TheVariants.{More as stop_more, Bad as stop_bad}
use Rattle.guac_framing.specs.Found.{IsUnfinished, IsBadAt}

-- if an instruction was found: the fact about its elements and the number of its bytes
abbrev pub IfWhole : Next → (List (List ℕ) → ℕ → Type 0) → Type 0
IfWhole (Whole frame n) P = P frame n
IfWhole More P = Unit {0}
IfWhole (Bad at) P = Unit {0}

abbrev pub IfMore : Next → Type 0 → Type 0
IfMore (Whole frame n) P = Unit {0}
IfMore More P = P
IfMore (Bad at) P = Unit {0}

abbrev pub IfBad : Next → (BadAt → Type 0) → Type 0
IfBad (Whole frame n) P = Unit {0}
IfBad More P = Unit {0}
IfBad (Bad at) P = P at

-- the first n bytes spell an instruction, and the values are the UTF-8 of its elements
pub record IsWhole (bytes : List ℕ) (values : List (List ℕ)) (n : ℕ) : Type 0 where
  pub within : n ≤ length bytes
  pub elements : List (List ℕ)
  pub spelled : Spells (take n bytes) elements
  pub texts : values ≡ map encode_utf8_all elements

-- why the reading stopped before an instruction's end
abbrev pub IsStopped : List ℕ → Stop → Type 0
IsStopped bytes stop_more = IsUnfinished bytes
IsStopped bytes (stop_bad at) = IsBadAt bytes at
