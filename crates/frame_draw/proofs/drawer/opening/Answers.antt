use Rattle.std.proofs.Common.{arith, ◌∙◌}
use Rattle.frame_draw.proofs.Ends.{IsSized, every, no_places, opening_drawn, opening_of}
use Rattle.frame_draw.proofs.drawer.opening.Goals as goal

-- what the calls leave, in one
whole : (c : goal.After-of) → IsSized c.args.now.now no_places every c.args.cache.now.keys c.args.stamp c.of.result c.draw.new.cache.keys
whole c =
    opening_of c.args.now.now c.args.cache.now.keys c.args.stamp c.cols.result c.rows.result c.in_ok-list.list.items c.push.new.self.items c.draw.new.list.items c.of.result c.draw.new.cache.keys
    c.requires.size c.as_slice.ensures.full (omega (arith, c.ranges.stamp)) c.cols.ensures c.rows.ensures c.in_ok-list.ensures.items c.in_ok-push.ensures.items (c.of.ensures ∙ c.in_ok-push-2.ensures.items)
    c.in_ok-draw.ensures.along

pub returns-clause-shape : goal.returns-clause-shape
returns-clause-shape c = (whole c).shape

pub returns-clause-opens : goal.returns-clause-opens
returns-clause-opens c = (whole c).opens

pub returns-clause-drawn : goal.returns-clause-drawn
returns-clause-drawn c = opening_drawn c.args.now.now c.args.cache.now.keys c.args.stamp c.of.result c.draw.new.cache.keys (whole c)

pub returns-clause-keys : goal.returns-clause-keys
returns-clause-keys c = (whole c).keys_are
