-- The view of a pass, which is what the pass knows, and what each kind of step makes of it (this project's own).
use Rattle.std.specs.Prelude.{◌≡◌, ◌≢◌, ◌⊎◌, ℕ, true, false, List, [], ◌∷◌, ◌++◌, length, max, Contains, if◌then◌else◌, nat_lt, Option, Some, None}
use Rattle.turn_lock.specs.Places.{ArePlaces, IsAt, zero_places}
use Rattle.turn_lock.specs.declared.view.View.{View}

-- the marks that were given, and m
abbrev pub more_given : ℕ → Option (List ℕ) → Option (List ℕ)
more_given m None = None
more_given m (Some ms) = Some (m ∷ ms)

module _ {E : Type 0} where
  -- the first pass at the making, whose value stands for h
  abbrev pub beginning : (E → Option ℕ) → List E → View E
  beginning mark h = record { seen = h; met = []; mine = zero_places mark h; known = 0; ticket = None; inside = false; mark = Some 0; given = Some [] }

  -- draw: the ticket is t
  abbrev pub with_ticket : ℕ → View E → View E
  with_ticket t v = record v { ticket = Some t }

  -- look, where the own ticket is served: inside, and all of the history is seen
  abbrev pub entered : List E → View E → View E
  entered h v = record v { inside = true; seen = h }

  -- pass on: no ticket, and not inside
  abbrev pub passed : View E → View E
  passed v = record v { inside = false; ticket = None }

  -- raise: the entry is seen, at a place of the pass's own
  abbrev pub gained : E → View E → View E
  gained e v = record v { seen = e ∷ v.seen; mine = length v.seen ∷ v.mine }

  -- newest: the number of entries is n
  abbrev pub knowing : ℕ → View E → View E
  knowing n v = record v { known = n }

  -- split: the pass that is split, which gives the mark if there is one
  abbrev pub giving : Option ℕ → View E → View E
  giving None v = v
  giving (Some m) v = record v { given = more_given m v.given }

  -- split: the new pass, with no place, and the mark if there is one
  abbrev pub part_of : Option ℕ → View E → View E
  part_of m v = record { seen = v.seen; met = []; mine = []; known = v.known; ticket = None; inside = false; mark = m; given = None }

  -- the longer of two lists
  abbrev pub longer : List E → List E → List E
  longer xs ys = if nat_lt (length xs) (length ys) then ys else xs

  -- and the shorter
  abbrev pub shorter : List E → List E → List E
  shorter xs ys = if nat_lt (length xs) (length ys) then xs else ys

  -- join: the longer seen, the shorter met, the greater known, and the places of both
  abbrev pub joined : View E → View E → View E
  joined v w = record v { seen = longer v.seen w.seen; met = shorter v.seen w.seen; known = max v.known w.known; mine = v.mine ++ w.mine }

  -- meet: what the other has seen is met, and the known number is the greater of the two
  abbrev pub meeting : View E → View E → View E
  meeting w v = record v { met = w.seen; known = max v.known w.known }

  -- join: the other pass, which is spent and knows nothing
  abbrev pub spent : View E
  spent = record { seen = []; met = []; mine = []; known = 0; ticket = None; inside = false; mark = None; given = None }

  -- a split may give the mark: the pass is the first, and the mark is new and not 0
  abbrev pub MayGive : Option ℕ → View E → Type 0
  MayGive None v = Unit {0}
  MayGive (Some m) v = (ms : List ℕ) × (v.given ≡ Some ms) × (m ≢ 0) × ¬ (Contains ms m)

  -- the pass may add the entry: its mark is the pass's or none
  abbrev pub MayAdd : (E → Option ℕ) → View E → E → Type 0
  MayAdd mark v e = (mark e ≡ None) ⊎ (mark e ≡ v.mark)

  -- each entry of h that has the pass's mark stands at a place of the pass's own
  abbrev pub Owns : (E → Option ℕ) → List E → View E → Type 0
  Owns mark h v = (m p : ℕ) (e : E) → v.mark ≡ Some m → IsAt h p e → mark e ≡ Some m → Contains v.mine p

  -- the own places lie within what was seen and none stands twice, and every entry there of the pass's mark stands at one of them
  pub record HasPlaces (mark : E → Option ℕ) (v : View E) : Type 0 where
    pub places : ArePlaces (length v.seen) v.mine
    pub owns : Owns mark v.seen v
