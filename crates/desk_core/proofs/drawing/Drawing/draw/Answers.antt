use Rattle.std.proofs.Common.{◌≡◌, ◌≤◌, ◌-◌, ◌^◌, ◌∙◌, refl, ap, subst, arith}
use Rattle.glyph_cache.specs.Cache.{CacheState}
use Rattle.desk_core.specs.Drawing.{DrawingState, Draws}
use Rattle.desk_core.proofs.Drawn.{drawn_over, no_buffer}
use Rattle.desk_core.proofs.drawing.Drawing.draw.Goals as goal

pub returns-then-holds_all-clause-draws : goal.returns-then-holds_all-clause-draws
returns-then-holds_all-clause-draws c =
    let t = c.args.screen.now in
    let frame = c.in_ok-frame.ensures in
    let old : DrawingState = record { screen = c.self.inside.screen; keys = c.self.inside.cache.keys } in
    let few : old.screen.rows ≤ 2 ^ 32 - 1 = omega (arith, ap (λ (d : DrawingState). d.screen.rows) c.self.view_is, c.requires.same_rows, c.requires.size.few_rows) in
    let same = no_buffer old.keys c.in_ok-shown.shown.keys c.frame.new.cache.keys (c.holds_all.ensures.held c.if-holds_all.true) (c.holds_all.ensures.few c.if-holds_all.true) frame.keys in
    subst (λ (d : DrawingState). Draws d t c.args.stamp c.in_ok-frame.frame record { screen = c.in_ok-shown.shown; keys = d.keys }) c.self.view_is
    (drawn_over old record { screen = c.in_ok-shown.shown; keys = old.keys } t c.args.stamp c.shift-shift.result c.in_ok-frame.frame c.in_ok-shown.shown c.frame.new.cache.keys
    c.in_ok-shown.ensures c.shift-shift.ensures few refl same frame.shape frame.renews frame.stays frame.keys frame.cost)

pub returns-clause-draws : goal.returns-clause-draws
returns-clause-draws c =
    let t = c.args.screen.now in
    let frame = c.in_ok-frame-2.ensures in
    let copied : DrawingState = record { screen = c.self.inside.screen; keys = c.in_ok-cache.cache.keys } in
    let new : DrawingState = record { screen = c.in_ok-shown.shown; keys = c.frame-2.new.cache.keys } in
    let few : copied.screen.rows ≤ 2 ^ 32 - 1 = omega (arith, ap (λ (d : DrawingState). d.screen.rows) c.self.view_is, c.requires.same_rows, c.requires.size.few_rows) in
    let is : copied ≡ c.args.self.now = ap (λ (k : CacheState). record { screen = c.self.inside.screen; keys = k.keys }) c.in_ok-cache.ensures.same ∙ c.self.view_is in
    subst (λ (d : DrawingState). Draws d t c.args.stamp c.in_ok-frame-2.frame new) is
    (drawn_over copied new t c.args.stamp c.shift-shift.result c.in_ok-frame-2.frame c.in_ok-shown.shown c.frame-2.new.cache.keys
    c.in_ok-shown.ensures c.shift-shift.ensures few refl refl frame.shape frame.renews frame.stays frame.keys frame.cost)
