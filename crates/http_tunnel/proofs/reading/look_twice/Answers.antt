use Rattle.std.proofs.Common.{◌∙◌, ◌++◌, ℕ, List, ap, append_assoc}
use Rattle.http_tunnel.proofs.Looks.{read_first_as, read_refused, read_second_as}
use Rattle.http_tunnel.proofs.reading.look_twice.Goals as goal

pub returns-in-Ok-Some-clause-read : goal.returns-in-Ok-Some-clause-read
returns-in-Ok-Some-clause-read g c = let a = c.in-Ok-Some.ensures.looked in (a.0, a.1, read_first_as _ _ _ _ _ _ c.in-Ok-Some.field-0-is a.2)

pub returns-in-Ok-None-clause-read : goal.returns-in-Ok-None-clause-read
returns-in-Ok-None-clause-read g c =
    let a = c.in-Ok-None.ensures.looked in
    let b = c.look-in-Ok-None.ensures.looked in (
      a.0 ++ b.0,
      b.1 ∙ (ap (λ (bs : List ℕ). bs ++ b.0) a.1 ∙ append_assoc _ a.0 b.0),
      read_second_as _ _ _ _ _ a.0 b.0 _ c.look-in-Ok-None.result _ c.in-Ok-None.field-0-is c.settled.ensures c.look.ensures.stays.viewer a.2 b.2,
    )

pub returns-in-Err-clause-read : goal.returns-in-Err-clause-read
returns-in-Err-clause-read g c = let a = c.in-Err.ensures.looked in (a.0, a.1, read_refused _ _ _ _ _ a.2)
