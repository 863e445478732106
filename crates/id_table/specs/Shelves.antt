-- What is on a shelf for one thread.
use Rattle.std.specs.Prelude.{◌≡◌, ℕ, List, Some}
use Rattle.std.specs.Cmp.Lexicographic.{slice_cmp}
use Rattle.std.specs.Ordering.{nat_cmp}
use Rattle.std.specs.declared.cmp.Ordering.TheVariants.{Less}
use Rattle.id_table.specs.declared.plain_shelf.PlainShelf.{PlainShelf}
use Rattle.id_table.specs.Maps.{Shelved}
use Rattle.id_table.specs.Tables.{held}

abbrev pub shelved : {V : Type 0} → PlainShelf V → Shelved V
shelved shelf = held shelf.slots

module _ {V : Type 0} where
  -- the ID's value isn't lent, and this is so of it
  abbrev pub Has : List ℕ → (V → Type 0) → Shelved V → Type 0
  Has id P m = (v : V) × (m id ≡ Some (Some v)) × P v

  -- this is so of each value that isn't lent
  abbrev pub Each : (V → Type 0) → Shelved V → Type 0
  Each P m = (id : List ℕ) (v : V) → m id ≡ Some (Some v) → P v

  -- this is so of each whose ID comes before, by bytes
  abbrev pub EachBelow : List ℕ → (V → Type 0) → Shelved V → Type 0
  EachBelow below P m = (id : List ℕ) (v : V) → slice_cmp nat_cmp id below ≡ Less → m id ≡ Some (Some v) → P v
