-- What a call moved over an edge of the program, and the count of faults there (this project's own).
-- What a source has left and what a sink holds are optional: a real stream doesn't tell.
use Rattle.std.specs.Prelude.{◌≡◌, ℕ, ◌+◌, ◌-◌, ◌^◌, ◌≤◌, min, List, [], ◌++◌, length, take, Option, Some, None}

-- the largest count; a count that stands there counts as risen in each call
abbrev pub most_faults : ℕ
most_faults = 2 ^ 64 - 1

-- a count after one more, which ends at the largest
abbrev pub one_more : ℕ → ℕ
one_more count = min (count + 1) most_faults

-- the count rose
abbrev pub Rose : ℕ → ℕ → Type 0
Rose before now = one_more before ≤ now

-- a count of faults rose in a call that tells of one, and never falls
abbrev pub CountsFault : Type 0 → ℕ → ℕ → Type 0
CountsFault told before after = (told → Rose before after) × before ≤ after

-- what was left before these bytes came, of what is left now
abbrev pub came : List ℕ → Option (List ℕ) → Option (List ℕ)
came bytes None = None
came bytes (Some rest) = Some (bytes ++ rest)

-- what a sink holds once it gained these bytes
abbrev pub gained : Option (List ℕ) → List ℕ → Option (List ℕ)
gained None bytes = None
gained (Some held) bytes = Some (held ++ bytes)

-- nothing is left, where the source tells
abbrev pub AtEnd : Option (List ℕ) → Type 0
AtEnd None = Unit {0}
AtEnd (Some rest) = rest ≡ []

-- the sink gained some front of the text
abbrev pub GainedFront : Option (List ℕ) → Option (List ℕ) → List ℕ → Type 0
GainedFront old new text = (n : ℕ) × (n ≤ length text) × (new ≡ gained old (take n text))
