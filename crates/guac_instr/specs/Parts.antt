-- The values of an instruction that the gateway sends.
use Rattle.std.specs.Prelude.{ℕ, List, decimal}
use Rattle.std.specs.Fmt.{signed_decimal}
use Rattle.std.specs.Str.{chars}
use Rattle.guac_instr.specs.declared.part.Part.{Part}
use Rattle.guac_instr.specs.declared.part.Part.TheVariants.{Word, Layer, Number}

-- the code points of a value
abbrev pub points_of : Part → List ℕ
points_of (Word text) = chars text.now
points_of (Layer layer) = signed_decimal layer
points_of (Number number) = decimal number
