-- Worked facts about the definitions. The entries here are numbers, and an entry below 3 is its own mark.
use Rattle.std.proofs.Common.{◌≡◌, ℕ, List, [], ◌∷◌, false, Option, Some, None, refl, inl, inr}
use Rattle.std.specs.Prelude.{nat_lt, if◌then◌else◌}
use Rattle.turn_lock.specs.Places.{IsAt}
use Rattle.turn_lock.specs.Views.{beginning, giving, part_of, gained, joined}

abbrev mark : ℕ → Option ℕ
mark n = if nat_lt n 3 then Some n else None

-- four entries, of which 9 is the oldest
abbrev four : List ℕ
four = 0 ∷ 1 ∷ 0 ∷ 9 ∷ []

-- places are counted from the oldest: 9 has place 0, and the newest entry has place 3
oldest : IsAt four 0 9
oldest = inr (inr (inr (inl (refl, refl))))

newest : IsAt four 3 0
newest = inl (refl, refl)

-- the first pass has the places of the entries with mark 0
first_places : (beginning mark four).mine ≡ 3 ∷ 1 ∷ []
first_places = refl

-- a split gives the mark to a view without places
part_is : part_of (Some 1) (beginning mark four) ≡ record { seen = four; met = []; mine = []; known = 0; ticket = None; inside = false; mark = Some 1; given = None }
part_is = refl

given_is : (giving (Some 1) (beginning mark four)).given ≡ Some (1 ∷ [])
given_is = refl

-- an entry is added at the place past the last
gained_is : (gained 7 (beginning mark four)).mine ≡ 4 ∷ 3 ∷ 1 ∷ []
gained_is = refl

-- a join has the longer view and all places
joined_is : (joined (part_of None (beginning mark four)) (gained 1 (part_of (Some 1) (beginning mark four)))).seen ≡ 1 ∷ four
joined_is = refl

-- and the shorter is what was met
met_is : (joined (part_of None (beginning mark four)) (gained 1 (part_of (Some 1) (beginning mark four)))).met ≡ four
met_is = refl

places_are : (joined (beginning mark four) (gained 1 (part_of (Some 1) (beginning mark four)))).mine ≡ 3 ∷ 1 ∷ 4 ∷ []
places_are = refl
