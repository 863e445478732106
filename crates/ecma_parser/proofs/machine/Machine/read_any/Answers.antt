use Rattle.std.proofs.Common.{◌∷◌, [], ◌++◌, sym, subst}
use Rattle.std.specs.List.{cons_option}
use Rattle.ecma_parser.specs.State.{Gives}
use Rattle.ecma_parser.proofs.StateLaws.{gives-nothing}
use Rattle.ecma_parser.proofs.machine.Machine.read_any.Goals as goal

pub returns-in-None-clause-control : goal.returns-in-None-clause-control
returns-in-None-clause-control c = λ rest stands.
    subst (λ o. Gives (rest ++ cons_option o []) [] c.args.self.now) (sym c.in-None.is) (gives-nothing rest c.args.self.now stands)

pub returns-in-Some-clause-control : goal.returns-in-Some-clause-control
returns-in-Some-clause-control c = λ rest stands.
    let new = c.read-completed.new.self in
    subst (λ o. Gives (rest ++ cons_option o []) (cons_option c.control.result []) new) (sym c.in-Some.is)
    (subst (λ given. Gives (rest ++ c.in-Some.c ∷ []) given new) c.control.ensures.control (c.read-completed.ensures rest stands))
