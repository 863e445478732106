use Rattle.std.proofs.Common.{ℕ, List, ◌++◌, take}
use Rattle.telnet_wire.specs.State.{Stands, Gives}
use Rattle.telnet_wire.proofs.reader.Reader.read_piece.Given as goal

-- the tokens are those of the bytes before the place
abbrev pub invariant-loop-byte : goal.invariant-loop-byte
invariant-loop-byte l = (rest : List ℕ) → Stands l.fn.self rest → Gives (rest ++ take l.byte-index l.piece) l.tokens.items l.self
