use Rattle.std.proofs.Common.{arith, rules}
use Rattle.serve_options.proofs.Colons.{split_at_last}
use Rattle.serve_options.proofs.values.place_of.Goals as goal

pub returns : goal.returns
returns c =
    let split = split_at_last 58 c.args.text.now _ c.rsplit_once.ensures.cases (omega arith) in
    rw (← split) (grind rules)

pub returns-in_default : goal.returns-in_default
returns-in_default c =
    let split = split_at_last 58 c.args.text.now _ c.rsplit_once.ensures.cases (omega arith) in
    rw (← split) (grind rules)
