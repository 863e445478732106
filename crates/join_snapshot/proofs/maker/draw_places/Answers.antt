use Rattle.std.proofs.Common.{rules}
use Rattle.join_snapshot.proofs.Walking.{cell_added, flag_is, read_is}
use Rattle.join_snapshot.proofs.maker.draw_places.Goals as goal

pub loop-place-preserved : goal.loop-place-preserved
loop-place-preserved c =
    cell_added c.args.cache.now.keys c.args.now.now c.args.wanted.now c.args.list.now.items c.loop-place.list.items c.draw_place.new.list.items c.loop-place.place _ _ _ _
    c.loop-place.invariant c.in_ok-draw_place.ensures
    (read_is c.as_slice-keys.result.now c.args.now.now.keys c.loop-place.place _ c.as_slice-keys.ensures.keys c.loop-place-test.true)
    (search rules) (search rules) (flag_is c.args.wanted.now c.loop-place.place _ (search rules))
