use Rattle.std.proofs.Common.{List, ap, subst, ◌∙◌}
use Rattle.std.specs.Prelude.{unsigned_abs}
use Rattle.canvas.specs.Kept.{KeptLayer}
use Rattle.canvas.specs.Standing.{KeepsAll}
use Rattle.canvas.proofs.Copies.{painted_layer}
use Rattle.canvas.proofs.Places.{layer_back}
use Rattle.canvas.proofs.canvas.Canvas.paint.Goals as goal

pub returns-clause-ok : goal.returns-clause-ok
returns-clause-ok c =
    painted_layer c.args.self.now c.grow.new.layers.items c.args.layer c.unsigned_abs-place.result c.index_mut.result.now c.paint.new.self c.args.colour
    c.requires (c.unsigned_abs-place.ensures.value ∙ ap unsigned_abs (layer_back c.args.layer c.requires)) c.in_ok-grow.ensures.long
    (subst (λ (ls : List KeptLayer). KeepsAll ls c.grow.new.layers.items) c.self.view_is c.grow.ensures.same) c.index_mut.ensures.value c.paint.ensures
