use Rattle.std.proofs.Common.{◌≡◌, refl, ap, ◌∙◌, subst}
use Rattle.glyph_cache.specs.Cache.{CacheState}
use Rattle.desk_core.specs.Drawing.{DrawingState, Redraws}
use Rattle.desk_core.proofs.Drawn.{drawn_shown}
use Rattle.desk_core.proofs.drawing.Drawing.redraw.Goals as goal

pub returns : goal.returns
returns c =
    let t = c.args.screen.now in
    let frame = c.in_ok-frame.ensures in
    let copied : DrawingState = record { screen = c.self.inside.screen; keys = c.in_ok-cache.cache.keys } in
    let new : DrawingState = record { screen = c.in_ok-shown.shown; keys = c.resized.new.cache.keys } in
    let is : copied ≡ c.args.self.now = ap (λ (k : CacheState). record { screen = c.self.inside.screen; keys = k.keys }) c.in_ok-cache.ensures.same ∙ c.self.view_is in
    subst (λ (d : DrawingState). Redraws d t c.args.stamp c.in_ok-frame.frame new) is record {
      over = drawn_shown copied new t c.args.stamp c.in_ok-frame.frame c.in_ok-shown.shown c.resized.new.cache.keys c.in_ok-shown.ensures refl refl frame.shape frame.renews frame.stays frame.keys;
      opens = frame.opens;
    }
