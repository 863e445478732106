use Rattle.std.proofs.Common.{ap, sym, ◌∙◌}
use Rattle.std.specs.Prelude.{unsigned_abs}
use Rattle.std.proofs.Math.Facts.{to_z-of_z}
use Rattle.canvas.specs.Standing.{kept_at}
use Rattle.canvas.proofs.Copies.{copied_layer, on_ok, on_ok_always}
use Rattle.canvas.proofs.Places.{others_stay}
use Rattle.canvas.proofs.canvas.Canvas.copy.Goals as goal

pub returns-clause-ok : goal.returns-clause-ok
returns-clause-ok c =
    on_ok c.copy_part.result
    (copied_layer c.args.self.now c.copy_part.new.self c.args.from c.args.to c.in-Some.source c.in-Some-place.target c.args.area c.args.x c.args.y
    c.requires.to (c.in-Some-place.ensures.1 ∙ ap unsigned_abs (to_z-of_z c.ranges.to)) (ap (kept_at c.args.self.now) (sym (to_z-of_z c.ranges.from)) ∙ c.in-Some.ensures.2) (ap (kept_at c.args.self.now) (sym (to_z-of_z c.ranges.to)) ∙ c.in-Some-place.ensures.2))
    c.copy_part.ensures.ok

pub returns-clause-others : goal.returns-clause-others
returns-clause-others c =
    on_ok_always c.copy_part.result
    (others_stay c.args.self.now c.copy_part.new.self c.args.to c.in-Some-place.target c.requires.to (c.in-Some-place.ensures.1 ∙ ap unsigned_abs (to_z-of_z c.ranges.to)) c.copy_part.ensures.others)
