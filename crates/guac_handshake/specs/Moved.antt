-- Bytes that a reading moved from a source to those that are unread.
use Rattle.std.specs.Prelude.{◌≡◌, ℕ, List, ◌++◌, Option}
use Rattle.gate_outside.specs.Edge.{came}
use Rattle.guac_handshake.specs.declared.stop.Stop.{Stop}
use Rattle.guac_handshake.specs.declared.stop.Stop.TheVariants.{Refused, Ended, ReadFault, WriteFault, NoMemory}

abbrev pub Moved : Option (List ℕ) → Option (List ℕ) → List ℕ → List ℕ → Type 0
Moved left_old left_new unread_old unread_new = (bytes : List ℕ) × (left_old ≡ came bytes left_new) × (unread_new ≡ unread_old ++ bytes)

-- a read failed, or memory was wanting
abbrev pub IsReadStop : Stop → Type 0
IsReadStop (Refused status) = ⊥
IsReadStop Ended = ⊥
IsReadStop ReadFault = Unit {0}
IsReadStop WriteFault = ⊥
IsReadStop NoMemory = Unit {0}
