use Rattle.std.proofs.Common.{◌∙◌, ◌++◌, ℕ, List, ap, sym, append-nil, append_assoc}
use Rattle.http_tunnel.specs.Reads.{mark_of}
use Rattle.http_tunnel.proofs.Looks.{read_marked}
use Rattle.http_tunnel.proofs.reading.read_within.Goals as goal

pub returns-in-Ok-clause-read : goal.returns-in-Ok-clause-read
returns-in-Ok-clause-read g c =
    let a = c.in-Ok.ensures.read in
    let m = c.mark.ensures.marked in
    (a.0, m ∙ (ap (λ (bs : List ℕ). bs ++ mark_of c.mark.result) a.1 ∙ append_assoc _ a.0 (mark_of c.mark.result)), read_marked _ _ _ _ _ c.mark.result c.mark.ensures.kind a.2)

pub returns-in-Err-clause-read : goal.returns-in-Err-clause-read
returns-in-Err-clause-read g c = let a = c.in-Err.ensures.read in (a.0, a.1 ∙ ap (λ (bs : List ℕ). c.args.into.now.items ++ bs) (sym (append-nil a.0)), a.2)
