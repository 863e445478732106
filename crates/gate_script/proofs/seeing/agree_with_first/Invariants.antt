use Rattle.std.proofs.Common.{◌<◌, ℕ, None}
use Rattle.std.specs.Prelude.{slice_index_or}
use Rattle.gate_script.specs.Seeing.{AreAlike}
use Rattle.gate_script.proofs.seeing.agree_with_first.Given as goal

abbrev pub invariant-loop-place : goal.invariant-loop-place
invariant-loop-place l = (k : ℕ) → k < l.place → AreAlike (slice_index_or l.canvases 0 None) (slice_index_or l.canvases k None)
