-- A source whose first byte can be looked at (this project's own).
use Rattle.std.specs.Prelude.{◌≡◌, ℕ, List, [], ◌∷◌, Bool, Option, Some, None, IfSome}
use Rattle.gate_outside.specs.Edge.{AtEnd, came}
use Rattle.gate_service.specs.Typings.{typed_from}
use Rattle.gate_service.specs.Typings as typing
use Rattle.gate_service.specs.declared.lookahead.Lookahead.{Lookahead}

-- the byte that was looked at, and hasn't been given yet
abbrev pub looked : Option ℕ → List ℕ
looked None = []
looked (Some byte) = byte ∷ []

module _ {S : Type 0} where
  -- the inner source
  abbrev pub source_of : Lookahead S → S
  source_of s = typing.inner_of s.source

  -- what is left, where the inner source tells
  abbrev pub left_of : (S → Option (List ℕ)) → Lookahead S → Option (List ℕ)
  left_of left s = came (looked s.byte) (typing.left_of left s.source)

  -- what is pasted is typed as keys already
  abbrev pub has_begun : Lookahead S → Bool
  has_begun s = typing.has_begun s.source

  -- what is left once it is
  abbrev pub typed_of : (S → Option (List ℕ)) → Lookahead S → Option (List ℕ)
  typed_of left s = typed_from (has_begun s) (left_of left s)

  -- the faults of its reads
  abbrev pub faults_of : (S → ℕ) → Lookahead S → ℕ
  faults_of faults s = typing.faults_of faults s.source

-- the first byte of what is left, where that is told, or its end
abbrev pub IsFirst : Option (List ℕ) → Option ℕ → Type 0
IsFirst left None = AtEnd left
IsFirst left (Some byte) = IfSome left (λ bytes. (more : List ℕ) × (bytes ≡ byte ∷ more))
