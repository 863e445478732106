use Rattle.std.proofs.Common.{◌∷◌, [], refl, sym, subst}
use Rattle.ecma_parser.specs.declared.machine.Machine.{Machine}
use Rattle.ecma_parser.specs.declared.state.State.TheVariants.{Ground}
use Rattle.ecma_parser.specs.State.{Gives}
use Rattle.ecma_parser.proofs.StateLaws.{ground-escape, ground-outside}
use Rattle.ecma_parser.proofs.machine.Machine.outside.Goals as goal

pub returns-then-c-eq-ESC : goal.returns-then-c-eq-ESC
returns-then-c-eq-ESC c = ground-escape c.args.c _ c.if-c-eq-ESC.true refl

pub returns : goal.returns
returns c =
    let s = c.args.self.now.sequence in
    let m : Machine = record { state = Ground; sequence = s } in
    subst (λ given. Gives (c.args.c ∷ []) given m) (sym (c.completed_by.ensures s)) (ground-outside c.args.c m c.if-c-eq-ESC.false refl)
