use Rattle.std.proofs.Common.{◌≡◌, length}
use Rattle.canvas.specs.Standing.{KeepsAll}
use Rattle.canvas.proofs.canvas.grow.Given as goal

abbrev pub invariant-loop-number : goal.invariant-loop-number
invariant-loop-number l = record { long : length l.layers.items ≡ l._number; same : KeepsAll l.fn.layers.items l.layers.items }
