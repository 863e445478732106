-- Bytes that were read into a buffer, and why reading stopped.
use Rattle.std.specs.Prelude.{◌≡◌, ℕ, List, ◌++◌, Option}
use Rattle.gate_outside.specs.Edge.{came}
use Rattle.http_front.specs.declared.stop.Stop.{Stop}
use Rattle.http_front.specs.declared.stop.Stop.TheVariants.{Refused, Ended, ReadFault, NoMemory}

-- the buffer gained what came of the source
abbrev pub Moved : Option (List ℕ) → Option (List ℕ) → List ℕ → List ℕ → Type 0
Moved left_old left_new old new = (bytes : List ℕ) × (left_old ≡ came bytes left_new) × (new ≡ old ++ bytes)

-- a read failed, or memory was wanting
abbrev pub IsReadStop : Stop → Type 0
IsReadStop (Refused status) = ⊥
IsReadStop Ended = ⊥
IsReadStop ReadFault = Unit {0}
IsReadStop NoMemory = Unit {0}

-- .. or the source was at its end
abbrev pub IsBodyStop : Stop → Type 0
IsBodyStop (Refused status) = ⊥
IsBodyStop Ended = Unit {0}
IsBodyStop ReadFault = Unit {0}
IsBodyStop NoMemory = Unit {0}
