-- Draws of dice that tell what is to come (this project's own).
use Rattle.std.specs.Prelude.{◌≡◌, ℕ, ◌+◌, ◌-◌, min, List, [], length, Option, Some, None, slice_get, unwrap_or}

-- the first draw to come was drawn, and the others are still to come; dice that tell go on to tell, and dice that
-- don't never do
abbrev pub Drew : List ℕ → Option (ℕ → List ℕ) → Option (ℕ → List ℕ) → Type 0
Drew drawn None None = Unit {0}
Drew drawn None (Some now) = ⊥
Drew drawn (Some before) None = ⊥
Drew drawn (Some before) (Some now) = (before 0 ≡ drawn) × ((n : ℕ) → now n ≡ before (n + 1))

-- listed draws from a place on, in order, and then the last again
abbrev pub listed_draw : List (List ℕ) → ℕ → ℕ → List ℕ
listed_draw listed at n = unwrap_or (slice_get listed (min (at + n) (length listed - 1))) []
