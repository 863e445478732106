use Rattle.std.proofs.Common.{arith, ◌∙◌}
use Rattle.frame_draw.proofs.Ends.{IsFrame, frame_of, scroll_list}
use Rattle.frame_draw.proofs.drawer.frame.Goals as goal

-- what the calls leave, in one
whole : (c : goal.After-drop-changed-inside-2) → IsFrame c.args.old.now c.args.new.now c.args.shift c.args.cache.now.keys c.args.stamp c.of.result c.draw_changed.new.cache.keys
whole c =
    let old = c.args.old.now in
    let now = c.args.new.now in
    frame_of old now c.args.shift c.args.cache.now.keys c.args.stamp c.scroll.new.list.items c.draw_changed.new.list.items c.of.result c.draw_changed.new.cache.keys
    c.requires.size c.requires.same_columns c.requires.same_rows c.in_ok-draw_changed.ensures.full (omega (arith, c.ranges.stamp))
    (scroll_list now.cols now.rows c.args.shift c.cols.result c.rows.result c.in_ok-drawn.drawn.items c.scroll.new.list.items c.in_ok-drawn.ensures.items c.in_ok-scroll.ensures c.cols.ensures c.rows.ensures)
    (c.of.ensures ∙ c.in_ok-push.ensures.items)
    c.in_ok-draw_changed.ensures.along

pub returns-clause-shape : goal.returns-clause-shape
returns-clause-shape c = (whole c).shape

pub returns-clause-renews : goal.returns-clause-renews
returns-clause-renews c = (whole c).renews

pub returns-clause-stays : goal.returns-clause-stays
returns-clause-stays c = (whole c).stays

pub returns-clause-keys : goal.returns-clause-keys
returns-clause-keys c = (whole c).keys_are

pub returns-clause-cost : goal.returns-clause-cost
returns-clause-cost c = (whole c).cheap
