use Rattle.std.proofs.Common.{refl, subst}
use Rattle.gate_model.specs.declared.token.Token.TheVariants.{Do, Dont, Will, Wont}
use Rattle.telnet_wire.specs.State.{StandsFor}
use Rattle.telnet_wire.proofs.StateLaws.{option-read}
use Rattle.telnet_wire.proofs.reader.Reader.read.Goals as goal

pub returns-in-AfterWill-clause-gives : goal.returns-in-AfterWill-clause-gives
returns-in-AfterWill-clause-gives c = λ rest stands.
    option-read 251 c.args.byte rest (Will c.args.byte) _ (subst (λ state. StandsFor state c.args.self.now.kept rest) c.in-AfterWill.is stands) refl refl

pub returns-in-AfterWont-clause-gives : goal.returns-in-AfterWont-clause-gives
returns-in-AfterWont-clause-gives c = λ rest stands.
    option-read 252 c.args.byte rest (Wont c.args.byte) _ (subst (λ state. StandsFor state c.args.self.now.kept rest) c.in-AfterWont.is stands) refl refl

pub returns-in-AfterDo-clause-gives : goal.returns-in-AfterDo-clause-gives
returns-in-AfterDo-clause-gives c = λ rest stands.
    option-read 253 c.args.byte rest (Do c.args.byte) _ (subst (λ state. StandsFor state c.args.self.now.kept rest) c.in-AfterDo.is stands) refl refl

pub returns-in-AfterDont-clause-gives : goal.returns-in-AfterDont-clause-gives
returns-in-AfterDont-clause-gives c = λ rest stands.
    option-read 254 c.args.byte rest (Dont c.args.byte) _ (subst (λ state. StandsFor state c.args.self.now.kept rest) c.in-AfterDont.is stands) refl refl
