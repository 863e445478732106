use Rattle.std.proofs.Common.{ap, ◌∙◌}
use Rattle.gate_model.specs.picture.Layers.{visible}
use Rattle.look.specs.Ppm.{rgb_of}
use Rattle.look.proofs.Lines.{line_more}
use Rattle.look.proofs.ppm.put_line.Goals as goal

pub loop-x-preserved : goal.loop-x-preserved
loop-x-preserved c = λ m s. line_more (m visible) c.args.y c.loop-x.x c.loop-x.into.items c.args.into.now.items c.extend_from_slice.new.self.items c.rgb_of-rgb.result c.in_ok-extend_from_slice.ensures.items (c.loop-x.invariant m s) (c.rgb_of-rgb.ensures ∙ ap rgb_of (c.pixel.ensures m s))
