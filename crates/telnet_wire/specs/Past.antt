-- What a reader says of the bytes that it has read.
use Rattle.std.specs.Prelude.{ℕ, List}
use Rattle.telnet_wire.specs.declared.reader.Reader.{Reader}
use Rattle.telnet_wire.specs.State.{Stands}
use Rattle.gate_model.specs.telnet.TelnetTokens.{unfinished_token}

-- it stands for the unfinished end
abbrev pub HaveRead : Reader → List ℕ → Type 0
HaveRead reader bytes = Stands reader (unfinished_token bytes)
