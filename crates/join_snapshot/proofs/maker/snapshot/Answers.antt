use Rattle.std.proofs.Common.{arith, rules, ◌≡◌, ◌∙◌, length, replicate, true}
use Rattle.join_snapshot.proofs.Ends.{IsSnapshot, snapshot_of}
use Rattle.join_snapshot.proofs.maker.snapshot.Goals as goal

-- what the calls leave, in one
whole : (c : goal.After-drop-wanted-2) → IsSnapshot c.args.now.now c.args.cache.now.keys c.args.stamp c.of.result
whole c =
    snapshot_of c.args.now.now c.args.cache.now.keys c.args.stamp c.cols.result c.rows.result (length c.as_slice.result.now) c.deref_mut.result.now c.new-list.result.items c.push.new.self.items c.make_buffers.new.list.items c.draw_picture.new.list.items c.of.result
    c.requires.size c.as_slice.ensures.full (omega (arith, c.ranges.stamp)) c.in_ok-make_buffers.ensures.valid.few c.cols.ensures c.rows.ensures c.new-list.ensures.items c.in_ok-push.ensures.items
    c.in_ok-make_buffers.ensures.made (let on : c.in_ok-wanted.wanted.items ≡ replicate (length c.as_slice.result.now) true = search rules in c.deref_mut.ensures.value ∙ on) c.in_ok-draw_picture.ensures (c.of.ensures ∙ c.in_ok-push-2.ensures.items)

pub returns-clause-shape : goal.returns-clause-shape
returns-clause-shape c = (whole c).shape

pub returns-clause-makes : goal.returns-clause-makes
returns-clause-makes c = (whole c).makes

pub returns-clause-few : goal.returns-clause-few
returns-clause-few c = (whole c).few
