-- Instructions one after the other (the Guacamole manual, "The Guacamole protocol"). An instruction is the list of
-- its values, the opcode first, each in UTF-8.
use Rattle.std.specs.Prelude.{◌≡◌, ℕ, List, [], ◌∷◌, ◌++◌, map, encode_utf8_all}
use Rattle.gate_model.specs.text.Spelling.{Spells}

-- these bytes are one instruction of these values
abbrev pub IsInstruction : List ℕ → List (List ℕ) → Type 0
IsInstruction bytes values = (elements : List (List ℕ)) × Spells bytes elements × (values ≡ map encode_utf8_all elements)

-- the text is these instructions and then a rest
abbrev pub Splits : List ℕ → List (List (List ℕ)) → List ℕ → Type 0
Splits text [] rest = text ≡ rest
Splits text (values ∷ others) rest = (own after : List ℕ) × IsInstruction own values × (text ≡ own ++ after) × Splits after others rest
