use Rattle.std.proofs.Common.{◌≡◌, ◌+◌, ◌<◌, ℕ, false}
use Rattle.gate_model.specs.picture.Pictures.{key_at}
use Rattle.frame_draw.specs.Along.{is_on}
use Rattle.frame_draw.proofs.runs.matching.Given as goal

-- the cells up to this one match
abbrev pub invariant-loop-step : goal.invariant-loop-step
invariant-loop-step l =
    ((i : ℕ) → i < l.step → is_on l.wanted (l.from + i) ≡ false) × ((i : ℕ) → i < l.step → key_at l.keys (l.to + i) ≡ key_at l.keys (l.from + i))
