use Rattle.std.proofs.Common.{refl, sym, ◌∙◌}
use Rattle.record_play.specs.Recorded.{IsRefused, Falls}
use Rattle.record_play.proofs.index.Index.put.Goals as goal

pub returns-in-Some-Some : goal.returns-in-Some-Some
returns-in-Some-Some c = λ placed at. Falls c.in-Some-Some.last c.in-Some-Some.stamp (sym at.last ∙ c.in-Some-Some.is-1) c.args.instr refl (sym c.stamp_of.ensures ∙ c.in-Some-Some.is-0) c.if-stamp-last.true
