-- Instructions one after the other (the Guacamole manual, "The Guacamole protocol"). An instruction is the list of
-- its elements.
use Rattle.std.specs.Prelude.{◌≡◌, ℕ, List, [], ◌∷◌, ◌++◌}
use Rattle.gate_model.specs.text.Spelling.{Spells}

-- the text is these instructions, one after the other, and then a rest
abbrev pub Splits : List ℕ → List (List (List ℕ)) → List ℕ → Type 0
Splits text [] rest = text ≡ rest
Splits text (e ∷ es) rest = (own after : List ℕ) × Spells own e × (text ≡ own ++ after) × Splits after es rest
