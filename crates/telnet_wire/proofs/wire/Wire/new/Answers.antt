use Rattle.std.proofs.Common.{[]}
use Rattle.telnet_wire.proofs.StateLaws.{new-past}
use Rattle.telnet_wire.proofs.wire.Wire.new.Goals as goal

pub invariant_of-result : goal.invariant_of-result
invariant_of-result c = record { past = ∣ ([], new-past c.new.result c.new.ensures) ∣₁ }

pub returns : goal.returns
returns c = record { nothing_read = new-past c.new.result c.new.ensures }
