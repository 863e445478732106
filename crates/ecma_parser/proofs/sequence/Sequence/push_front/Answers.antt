use Rattle.std.proofs.Common.{◌≤◌, All, subst, arith}
use Rattle.std.proofs.lemmas.List.{length-take, take-take}
use Rattle.ecma_parser.specs.Sequence.{IsPlain}
use Rattle.ecma_parser.proofs.sequence.Sequence.push_front.Goals as goal

pub returns-clause-plain : goal.returns-clause-plain
returns-clause-plain c =
    let count = c.push_values-count.result in
    let room = c.min.result in
    let piece = c.args.piece.now in
    let few : count ≤ room = omega (arith, c.push_values-count.ensures.within, length-take room piece) in
    subst (All IsPlain) (take-take count room piece few) c.push_values-count.ensures.plain
