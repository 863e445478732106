-- What is held under each ID (this project's own). An ID is the list of its 16 bytes.
use Rattle.std.specs.Prelude.{◌≡◌, ◌≢◌, ℕ, List, Option, Some, None}

abbrev pub Map : Type 0 → Type 0
Map V = List ℕ → Option V

module _ {V : Type 0} where
  -- only this ID changed, and to that
  abbrev pub Changed : List ℕ → Option V → Map V → Map V → Type 0
  Changed id now m n = (n id ≡ now) × ((k : List ℕ) → k ≢ id → n k ≡ m k)

  -- nothing changed
  abbrev pub Same : Map V → Map V → Type 0
  Same m n = (k : List ℕ) → n k ≡ m k

-- a shelf that tells goes on to tell, one that doesn't never does, and what is told before and after is so related
abbrev pub Told : {M : Type 0} → Option M → Option M → (M → M → Type 0) → Type 0
Told None None P = Unit {0}
Told None (Some n) P = ⊥
Told (Some m) None P = ⊥
Told (Some m) (Some n) P = P m n

-- on a shelf an ID that is there is lent, `Some None`, or has its value
abbrev pub Shelved : Type 0 → Type 0
Shelved V = Map (Option V)

module _ {V : Type 0} where
  -- the ID is lent
  abbrev pub IsLent : List ℕ → Shelved V → Type 0
  IsLent id m = m id ≡ Some None

  -- what a lend leaves under an ID
  abbrev pub lent_as : Option V → Option (Option V)
  lent_as None = None
  lent_as (Some v) = Some None

  -- what was under an ID whose value came out
  abbrev pub had : Option V → Option (Option V)
  had None = None
  had (Some v) = Some (Some v)
