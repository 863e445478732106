-- A source that gives some bytes first (this project's own).
use Rattle.std.specs.Prelude.{ℕ, List, drop}
use Rattle.gate_outside.specs.declared.again.Again.{Again}

module _ {S : Type 0} where
  -- the bytes that come first, without those that were given
  abbrev pub first_of : Again S → List ℕ
  first_of s = drop s.at s.first

  -- the inner source
  abbrev pub source_of : Again S → S
  source_of s = s.source
