-- How the acts of a viewer are cut at those that ask for a size (this project's own).
use Rattle.std.specs.Prelude.{◌≡◌, ℕ, ◌≤◌, Bool, List, [], ◌∷◌, ◌++◌, length, Option, Some, None, is_none}
use Rattle.gate_model.specs.declared.act.Act.{Act}
use Rattle.gate_model.specs.declared.act.Act.TheVariants.{Size}

-- the size in pixels that an act asks for
abbrev pub size_in : Act → Option (ℕ × ℕ)
size_in (Size width height) = Some (width, height)
size_in act = None

abbrev pub is_other : Act → Bool
is_other act = is_none (size_in act)

-- acts that are written at once; or a size that is asked for
pub data Part : Type 0 where
  Others : List Act → Part
  Sized : ℕ × ℕ → Part

-- ---- the parts of acts: each size by itself, and all acts between two at once

abbrev pub with_act : Act → List Part → List Part
with_act act (Others acts ∷ parts) = Others (act ∷ acts) ∷ parts
with_act act parts = Others (act ∷ []) ∷ parts

abbrev pub with_first : Option (ℕ × ℕ) → Act → List Part → List Part
with_first (Some size) act parts = Sized size ∷ parts
with_first None act parts = with_act act parts

abbrev pub parts_of : List Act → List Part
parts_of [] = []
parts_of (act ∷ acts) = with_first (size_in act) act (parts_of acts)

-- ---- the acts of parts

abbrev pub acts_in : Part → List Act
acts_in (Others acts) = acts
acts_in (Sized size) = Size size.0 size.1 ∷ []

abbrev pub joined : List Part → List Act
joined [] = []
joined (part ∷ parts) = acts_in part ++ joined parts

abbrev pub HasNoSize : List Act → Type 0
HasNoSize [] = Unit {0}
HasNoSize (act ∷ acts) = (size_in act ≡ None) × HasNoSize acts

-- at least one act, and none asks for a size
pub record IsRun (acts : List Act) : Type 0 where
  pub some : 1 ≤ length acts
  pub no_size : HasNoSize acts

abbrev pub IsPart : Part → Type 0
IsPart (Others acts) = IsRun acts
IsPart (Sized size) = Unit {0}

-- however the acts between two sizes are cut further
abbrev pub AreParts : List Part → Type 0
AreParts [] = Unit {0}
AreParts (part ∷ parts) = IsPart part × AreParts parts
