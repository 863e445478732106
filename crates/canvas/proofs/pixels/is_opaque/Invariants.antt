use Rattle.std.proofs.Common.{◌≡◌, ℕ, ◌<◌, false, get_or, None, IsTrue, is_some}
use Rattle.canvas.proofs.pixels.is_opaque.Given as goal

abbrev pub invariant-loop-pixel : goal.invariant-loop-pixel
invariant-loop-pixel l = l.clear ≡ false → (k : ℕ) → k < l.pixel-index → IsTrue (is_some (get_or l.run k None))
