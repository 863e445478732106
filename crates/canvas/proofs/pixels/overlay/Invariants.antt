use Rattle.std.proofs.Common.{◌≡◌, ℕ, ◌+◌, ◌-◌, ◌<◌, if◌then◌else◌}
use Rattle.gate_model.specs.picture.Layers.{over}
use Rattle.canvas.specs.Kept.{is_within, pixel_in}
use Rattle.canvas.proofs.pixels.overlay.Given as goal

abbrev pub invariant-loop-row : goal.invariant-loop-row
invariant-loop-row l = (px py : ℕ) → px < l.target_width → pixel_in l.target l.target_width px py ≡ (if is_within l.x (l.x + l.area.width) l.y (l.y + l.row) px py then over (pixel_in l.source l.source_width (l.area.x + (px - l.x)) (l.area.y + (py - l.y))) (pixel_in l.fn.target l.target_width px py) else pixel_in l.fn.target l.target_width px py)
