-- What an instruction of a client says in the handshake (the Guacamole manual, "The Guacamole protocol", on the
-- handshake; which values are looked at is this project's own).
use Rattle.std.specs.Prelude.{ℕ, List, Option, Some, None, if◌then◌else◌, slice_get, bytes_eq, codes}
use Rattle.std.specs.Option.{option_map_or}
use Rattle.gate_model.specs.declared.act.Act.{Act}
use Rattle.gate_model.specs.declared.act.Act.TheVariants.{Size}
use Rattle.gate_model.specs.text.ClientMeaning.{act_of}

-- it selects the protocol or the connection of a name, gives the size of its display, asks to connect, or says anything
-- else
pub data Greeting : Type 0 where
  Selects : List ℕ → Greeting
  HasSize : ℕ → ℕ → Greeting
  Connects : Greeting
  SaysOther : Greeting

-- `select` needs a value
abbrev pub selection : Option (List ℕ) → Greeting
selection (Some name) = Selects name
selection None = SaysOther

-- of an act only a size counts
abbrev pub size_said : Option Act → Greeting
size_said (Some (Size width height)) = HasSize width height
size_said act = SaysOther

-- by the opcode
abbrev pub greeting_named : List ℕ → List (List ℕ) → Greeting
greeting_named opcode elements =
    if bytes_eq opcode (codes "select") then selection (slice_get elements 1) else (
    if bytes_eq opcode (codes "connect") then Connects else size_said (act_of elements))

abbrev pub greeting_of : List (List ℕ) → Greeting
greeting_of elements = option_map_or (λ opcode. greeting_named opcode elements) (slice_get elements 0) SaysOther
