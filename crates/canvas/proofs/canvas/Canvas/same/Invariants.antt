use Rattle.std.proofs.Common.{ℕ, ◌<◌, get_or}
use Rattle.canvas.specs.Kept.{IsKeptAlike, kept_empty}
use Rattle.canvas.proofs.canvas.Canvas.same.Given as goal

abbrev pub invariant-loop-place : goal.invariant-loop-place
invariant-loop-place l = (i : ℕ) → i < l.place → IsKeptAlike (get_or l.self i kept_empty) (get_or l.other i kept_empty)
