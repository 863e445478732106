use Rattle.std.proofs.Common.{arith, rules}
use Rattle.serve_options.proofs.Colons.{split_at_last}
use Rattle.serve_options.proofs.values.address_of.Goals as goal

pub returns-in-Some : goal.returns-in-Some
returns-in-Some c =
    let split = split_at_last 58 c.args.text.now _ c.rsplit_once.ensures.cases (omega arith) in
    rw (← split) (grind rules)

pub returns-in-None : goal.returns-in-None
returns-in-None c =
    let split = split_at_last 58 c.args.text.now _ c.rsplit_once.ensures.cases (omega arith) in
    rw (← split) (grind rules)
