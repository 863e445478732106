use Rattle.std.proofs.Common.{ap, ◌∙◌, ◌++◌, List, ℕ}
use Rattle.http_tunnel.specs.Reads.{mark_of}
use Rattle.http_tunnel.proofs.TunnelReads.{answered_as}
use Rattle.http_tunnel.proofs.read.read_lent.Goals as goal

pub returns-clause-read : goal.returns-clause-read
returns-clause-read g c =
    let t = c.read_behind-end.ensures.read in
    let a = c.answer_of.ensures in (
      t.0,
      c.read_behind-end.result,
      t.2,
      answered_as _ t.0 _ _ _ _ (c.of.ensures ∙ (t.1 ∙ ap (λ (bs : List ℕ). bs ++ (t.0 ++ mark_of c.read_behind-end.result)) c.into_inner-text.ensures)) a.answered a.kept a.ended,
    )
