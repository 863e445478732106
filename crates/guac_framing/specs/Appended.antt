-- What a writer appends (the Guacamole manual, "The Guacamole protocol").
use Rattle.std.specs.Prelude.{ℕ, List, ◌∷◌, ◌++◌, Bool, true, false}
use Rattle.gate_model.specs.text.Text.{element}

-- an element after what stands before it: a `,` unless it is an instruction's first
abbrev pub separated : Bool → List ℕ → List ℕ
separated true value = element value
separated false value = 44 ∷ element value

-- the same from the digits of its length and the bytes of its value
abbrev pub spelled : Bool → List ℕ → List ℕ → List ℕ
spelled true digits bytes = digits ++ 46 ∷ bytes
spelled false digits bytes = 44 ∷ digits ++ 46 ∷ bytes
