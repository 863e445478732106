use Rattle.std.proofs.Common.{refl}
use Rattle.telnet_wire.proofs.StateLaws.{data-iac, data-byte}
use Rattle.telnet_wire.proofs.reader.Reader.data.Goals as goal

pub returns-then-byte-eq-IAC : goal.returns-then-byte-eq-IAC
returns-then-byte-eq-IAC c = data-iac c.args.byte _ c.if-byte-eq-IAC.true refl

pub returns : goal.returns
returns c = data-byte c.args.byte _ c.if-byte-eq-IAC.false refl
