-- What a clause reads of `Part`.
use Rattle.std.specs.Prelude.{ℕ, List, [], ◌∷◌, map}
use Rattle.gate_model.specs.declared.token.Token.{Token}
use Rattle.gate_model.specs.declared.token.Token.TheVariants.{Byte}
use Rattle.telnet_wire.specs.declared.part.Part.{Part}
use Rattle.telnet_wire.specs.declared.part.Part.TheVariants.{Run, One, Nothing}

-- the tokens of a part, in order
abbrev pub given : Part → List Token
given (Run bytes) = map Byte bytes.now
given (One token) = token ∷ []
given Nothing = []
