use Rattle.std.proofs.Common.{arith, ◌∙◌}
use Rattle.frame_draw.specs.Fresh.{is_fresh, kept_key}
use Rattle.frame_draw.proofs.Ends.{IsSized, resized_few, resized_of, resized_renews}
use Rattle.frame_draw.proofs.drawer.resized.Goals as goal

-- what the calls leave, in one
whole : (c : goal.After-of) → IsSized c.args.new.now (kept_key c.args.new.now.cols c.args.old.now) (is_fresh c.args.new.now.cols c.args.old.now c.args.new.now.keys) c.args.cache.now.keys c.args.stamp c.of.result c.draw.new.cache.keys
whole c =
    resized_of c.args.new.now c.args.cache.now.keys c.args.stamp c.cols.result c.rows.result c.new-list.result.items c.push.new.self.items c.draw.new.list.items c.of.result c.draw.new.cache.keys
    c.requires.size c.in_ok-draw.ensures.full (omega (arith, c.ranges.stamp)) c.cols.ensures c.rows.ensures c.new-list.ensures.items c.in_ok-push.ensures.items (c.of.ensures ∙ c.in_ok-push-2.ensures.items)
    c.args.old.now c.in_ok-draw.ensures.along

pub returns-clause-shape : goal.returns-clause-shape
returns-clause-shape c = (whole c).shape

pub returns-clause-opens : goal.returns-clause-opens
returns-clause-opens c = (whole c).opens

pub returns-clause-renews : goal.returns-clause-renews
returns-clause-renews c = resized_renews c.args.old.now c.args.new.now c.args.cache.now.keys c.args.stamp c.of.result c.draw.new.cache.keys (whole c)

pub returns-clause-stays : goal.returns-clause-stays
returns-clause-stays c = (whole c).stays

pub returns-clause-keys : goal.returns-clause-keys
returns-clause-keys c = (whole c).keys_are

pub returns-clause-few : goal.returns-clause-few
returns-clause-few c = resized_few c.args.old.now c.args.new.now c.args.cache.now.keys c.args.stamp c.of.result c.draw.new.cache.keys (whole c)
