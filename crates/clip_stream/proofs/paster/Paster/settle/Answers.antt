use Rattle.std.proofs.Common.{sym, ◌∙◌}
use Rattle.clip_stream.specs.Sources.{counted}
use Rattle.clip_stream.proofs.Steps.{idle_kept, rest-ends}
use Rattle.clip_stream.proofs.paster.Paster.settle.Goals as goal

pub returns-then-not-waits-clause-keeps : goal.returns-then-not-waits-clause-keeps
returns-then-not-waits-clause-keeps c more =
    let s = c.take_up.new.self in
    let idle = sym c.waits.ensures ∙ c.if-not-waits.true in
    rest-ends s.is_raw s.is_ended s.clip.clip s.kept s.held more s.clip.waiting c.if-self.true (c.take_up.ensures.done idle) (idle_kept s.clip.waiting s.held s.kept s.is_raw idle)
    ∙ c.take_up.ensures.keeps more
