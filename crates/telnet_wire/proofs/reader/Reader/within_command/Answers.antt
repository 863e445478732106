use Rattle.std.proofs.Common.{◌++◌, ◌∷◌, [], refl, sym, subst, arith}
use Rattle.std.specs.List.{cons_option}
use Rattle.gate_model.specs.telnet.TelnetTokens.{iac, head_sub, sub_token}
use Rattle.telnet_wire.specs.declared.reader.Reader.{Reader}
use Rattle.telnet_wire.specs.declared.state.State.TheVariants.{Data}
use Rattle.telnet_wire.specs.State.{sub_command, Gives}
use Rattle.telnet_wire.proofs.StateLaws.{gives-waiting, gives-ended, gives-left, command-iac, command-end, command-other}
use Rattle.telnet_wire.proofs.reader.Reader.within_command.Goals as goal

pub returns-in-255-clause-gives : goal.returns-in-255-clause-gives
returns-in-255-clause-gives c = λ rest before holds reads.
    let longer = before ++ iac ∷ [] in
    gives-waiting rest c.args.byte (sub_command before) (head_sub longer) _ reads (λ more. command-iac before c.args.byte more c.in-255.is) refl
    (λ on. (longer, c.push.ensures before holds, on))

pub returns-in_ok-token-in-240-clause-gives : goal.returns-in_ok-token-in-240-clause-gives
returns-in_ok-token-in-240-clause-gives c = λ rest before holds reads.
    let reader : Reader = record { state = Data; kept = c.args.self.now.kept } in
    subst (λ given. Gives (rest ++ c.args.byte ∷ []) given reader) (sym (c.in_ok-token-in-240.ensures before holds))
    (gives-ended rest c.args.byte (sub_command before) (sub_token before) reader reads (command-end before c.args.byte c.in-240.is) refl)

pub returns-in_default-clause-gives : goal.returns-in_default-clause-gives
returns-in_default-clause-gives c = λ rest before holds reads.
    gives-left rest c.args.byte (sub_command before) (iac ∷ c.args.byte ∷ []) (cons_option c.command.result []) c.command.new.self reads
    (command-other before c.args.byte (λ is. absurd (omega arith)) (λ is. absurd (omega arith))) c.command.ensures
