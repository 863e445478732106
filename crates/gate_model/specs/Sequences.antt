-- Words on lists. A history grows at the front: its newest entry comes first. Bytes, texts and
-- instructions grow at the back: the oldest comes first.
use Rattle.std.specs.Prelude.{◌≡◌, List, ◌++◌}

-- the new list is the old one with more items put before it, as a history's newer entries are
abbrev pub IsLater : {A : Type 0} → List A → List A → Type 0
IsLater {A} old new = (more : List A) × (new ≡ more ++ old)

-- the whole list begins with the first one
abbrev pub BeginsWith : {A : Type 0} → List A → List A → Type 0
BeginsWith {A} whole front = (rest : List A) × (whole ≡ front ++ rest)
