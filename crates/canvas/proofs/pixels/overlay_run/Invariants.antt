use Rattle.std.proofs.Common.{◌≡◌, ℕ, get_or, None, nat_lt, if◌then◌else◌}
use Rattle.gate_model.specs.picture.Layers.{over}
use Rattle.canvas.proofs.pixels.overlay_run.Given as goal

abbrev pub invariant-loop-k : goal.invariant-loop-k
invariant-loop-k l = (j : ℕ) → get_or l.pixels j None ≡ (if nat_lt j l.k then over (get_or l.run j None) (get_or l.fn.pixels j None) else get_or l.fn.pixels j None)
