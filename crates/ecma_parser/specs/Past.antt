-- What the parts of a parser say of the bytes that it has read.
use Rattle.std.specs.Prelude.{◌≡◌, ℕ, List}
use Rattle.ecma_parser.specs.declared.held.Held.{Held}
use Rattle.ecma_parser.specs.declared.machine.Machine.{Machine}
use Rattle.ecma_parser.specs.Held.{held_bytes}
use Rattle.ecma_parser.specs.State.{Stands}
use Rattle.gate_model.specs.terminal.Characters.{characters, pending}
use Rattle.gate_model.specs.terminal.Controls.{unfinished}

-- the bytes that may still become a character are held, and the machine stands for the unfinished characters
pub record HaveRead (held : Held) (machine : Machine) (bytes : List ℕ) : Type 0 where
  pub bytes_held : held_bytes held ≡ pending bytes
  pub stands : Stands machine (unfinished (characters bytes))
