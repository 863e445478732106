-- Why a value wasn't added.
use Rattle.std.specs.Prelude.{◌≡◌, ℕ, List}
use Rattle.id_table.specs.declared.add_refusal.AddRefusal.{AddRefusal}
use Rattle.id_table.specs.declared.add_refusal.AddRefusal.TheVariants.{Conflict, NoMemory}

-- the value that comes back
abbrev pub value_of : {V : Type 0} → AddRefusal V → V
value_of (Conflict value drawn) = value
value_of (NoMemory value) = value

-- if four drawn IDs were there: a fact about them
abbrev pub IfConflict : {V : Type 0} → AddRefusal V → (List (List ℕ) → Type 0) → Type 0
IfConflict (Conflict value drawn) P = P drawn
IfConflict (NoMemory value) P = Unit {0}

-- the second refusal carries the IDs that the first does, if either does
abbrev pub HasDrawn : {V W : Type 0} → AddRefusal V → AddRefusal W → Type 0
HasDrawn (Conflict value drawn) (Conflict other ids) = drawn ≡ ids
HasDrawn (Conflict value drawn) (NoMemory other) = ⊥
HasDrawn (NoMemory value) (Conflict other ids) = ⊥
HasDrawn (NoMemory value) (NoMemory other) = Unit {0}
