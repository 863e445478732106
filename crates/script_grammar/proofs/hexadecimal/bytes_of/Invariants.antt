use Rattle.std.proofs.Common.{◌≡◌, ◌*◌, drop}
use Rattle.script_grammar.specs.Hexadecimal.{bytes_of}
use Rattle.script_grammar.proofs.HexLaws.{join_bytes}
use Rattle.script_grammar.proofs.hexadecimal.bytes_of.Given as goal

abbrev pub invariant-loop-place : goal.invariant-loop-place
invariant-loop-place l = bytes_of l.digits ≡ join_bytes l.bytes.items (bytes_of (drop (2 * l.place) l.digits))
