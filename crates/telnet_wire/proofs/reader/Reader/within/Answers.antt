use Rattle.std.proofs.Common.{◌++◌, ◌∷◌, [], refl}
use Rattle.gate_model.specs.telnet.TelnetTokens.{head_sub}
use Rattle.telnet_wire.specs.State.{sub_command}
use Rattle.telnet_wire.proofs.StateLaws.{gives-waiting, sub-iac, sub-more}
use Rattle.telnet_wire.proofs.reader.Reader.within.Goals as goal

pub returns-then-byte-eq-IAC : goal.returns-then-byte-eq-IAC
returns-then-byte-eq-IAC c = λ rest before holds reads.
    gives-waiting rest c.args.byte (head_sub before) (sub_command before) _ reads (λ more. sub-iac before c.args.byte more c.if-byte-eq-IAC.true) refl (λ on. (before, holds, on))

pub returns : goal.returns
returns c = λ rest before holds reads.
    let longer = before ++ c.args.byte ∷ [] in
    gives-waiting rest c.args.byte (head_sub before) (head_sub longer) _ reads (λ more. sub-more before c.args.byte more c.if-byte-eq-IAC.false) refl
    (λ on. (longer, c.push.ensures before holds, on))
