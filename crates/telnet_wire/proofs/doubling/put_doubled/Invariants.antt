use Rattle.std.proofs.Common.{◌≡◌, ◌++◌, take}
use Rattle.gate_model.specs.telnet.TelnetTokens.{doubled}
use Rattle.telnet_wire.proofs.doubling.put_doubled.Given as goal

abbrev pub invariant-loop-byte : goal.invariant-loop-byte
invariant-loop-byte l = l.into.items ≡ l.fn.into.items ++ doubled (take l.byte-index l.bytes)
