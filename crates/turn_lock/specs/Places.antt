-- Places in a history, which is a list with the newest entry first. A place is counted from the oldest entry, so an entry keeps its place while the history grows (this project's own).
use Rattle.std.specs.Prelude.{◌≡◌, ◌⊎◌, ℕ, ◌<◌, Bool, false, List, [], ◌∷◌, length, Contains, if◌then◌else◌, nat_eq, Option, Some, None}

-- no number stands twice in the list
abbrev pub NoneTwice : List ℕ → Type 0
NoneTwice [] = Unit {0}
NoneTwice (n ∷ ns) = ¬ (Contains ns n) × NoneTwice ns

-- places in a history of n entries: each is below n and stands once
pub record ArePlaces (n : ℕ) (ps : List ℕ) : Type 0 where
  pub within : (p : ℕ) → Contains ps p → p < n
  pub once : NoneTwice ps

-- the mark is 0
abbrev pub is_zero : Option ℕ → Bool
is_zero None = false
is_zero (Some m) = nat_eq m 0

module _ {E : Type 0} where
  -- the entry e stands at the place p
  abbrev pub IsAt : List E → ℕ → E → Type 0
  IsAt [] p e = ⊥
  IsAt (newest ∷ older) p e = ((p ≡ length older) × (newest ≡ e)) ⊎ IsAt older p e

  module _ (mark : E → Option ℕ) where
    -- the places of the entries with mark 0
    abbrev pub zero_places : List E → List ℕ
    zero_places [] = []
    zero_places (newest ∷ older) = if is_zero (mark newest) then length older ∷ zero_places older else zero_places older

    -- no entry has a mark other than 0
    abbrev pub IsUnmarked : List E → Type 0
    IsUnmarked h = (p m : ℕ) (e : E) → IsAt h p e → mark e ≡ Some m → m ≡ 0
