use Rattle.std.proofs.Common.{rules, ◌<◌, true, false, length}
use Rattle.frame_draw.proofs.Holding.{none_held}
use Rattle.frame_draw.proofs.Walking.{copy_added, going_none, going_passed, going_copied, going_ends, read_is, still_kept, test_is}
use Rattle.frame_draw.proofs.drawer.draw_places.Goals as goal
use Rattle.frame_draw.proofs.drawer.draw_places.Goals.{then-is_next+in_ok-push, else-is_next}

pub loop-place-init : goal.loop-place-init
loop-place-init c = going_none c.args.now.now c.args.wanted c.args.list.now.items c.args.cache.now.keys _ (none_held c.args.cache.now.keys)

pub returns-in_err-held-clause-kept : goal.returns-in_err-held-clause-kept
returns-in_err-held-clause-kept c =
    still_kept c.args.now.now c.args.cache.now.keys c.loop-place.cache.keys c.hold.new.cache.keys c.loop-place.place _ (search rules)
    (read_is c.as_slice-keys.result.now c.args.now.now.keys c.loop-place.place _ c.as_slice-keys.ensures.keys c.loop-place-test.true)
    c.loop-place.invariant.kept c.in_err-held.ensures.kept

pub returns-in_err-push-clause-kept : goal.returns-in_err-push-clause-kept
returns-in_err-push-clause-kept c =
    still_kept c.args.now.now c.args.cache.now.keys c.loop-place.cache.keys c.hold.new.cache.keys c.loop-place.place _ (search rules)
    (read_is c.as_slice-keys.result.now c.args.now.now.keys c.loop-place.place _ c.as_slice-keys.ensures.keys c.loop-place-test.true)
    c.loop-place.invariant.kept c.in_ok-held.ensures.kept

pub loop-place-preserved : goal.loop-place-preserved
loop-place-preserved c =
    let g = c.loop-place.invariant in
    let here : c.loop-place.place < length c.args.now.now.keys = search rules in
    elim c.if-is_next.branch [
      | then-is_next+in_ok-push w ↦
          rw (w.list-is, w.at-is)
          (going_copied c.args.now.now c.args.wanted c.args.list.now.items c.args.cache.now.keys c.loop-place.place c.loop-place.at c.loop-place.recent c.loop-place.list.items c.loop-place.cache.keys
          _ c.in_ok-held.held c.hold.new.list.items c.hold.new.cache.keys
          record { in_place = here; read = read_is c.as_slice-keys.result.now c.args.now.now.keys c.loop-place.place _ c.as_slice-keys.ensures.keys c.loop-place-test.true; named = c.in_ok-held.ensures.key; holds = c.in_ok-held.ensures.held; kept = c.in_ok-held.ensures.kept }
          g c.hold.new.recent c.in_ok-held.ensures.recent w.push.new.self.items c.requires.size c.as_slice-keys.ensures.full
          (copy_added c.hold.new.list.items w.push.new.self.items w.copy_to.result _ c.in_ok-held.held.layer c.loop-place.place c.cols-cols.result c.args.now.now.cols w.in_ok-push.ensures.items w.copy_to.ensures (search rules) c.cols-cols.ensures)
          (test_is true c.args.wanted c.loop-place.at c.loop-place.place c.cols-cols.result c.args.now.now.cols w.if-is_next.ensures c.cols-cols.ensures))
      | else-is_next w ↦
          rw (w.list-is, w.at-is)
          (going_passed c.args.now.now c.args.wanted c.args.list.now.items c.args.cache.now.keys c.loop-place.place c.loop-place.at c.loop-place.recent c.loop-place.list.items c.loop-place.cache.keys
          _ c.in_ok-held.held c.hold.new.list.items c.hold.new.cache.keys
          record { in_place = here; read = read_is c.as_slice-keys.result.now c.args.now.now.keys c.loop-place.place _ c.as_slice-keys.ensures.keys c.loop-place-test.true; named = c.in_ok-held.ensures.key; holds = c.in_ok-held.ensures.held; kept = c.in_ok-held.ensures.kept }
          g c.hold.new.recent c.in_ok-held.ensures.recent (test_is false c.args.wanted c.loop-place.at c.loop-place.place c.cols-cols.result c.args.now.now.cols w.if-is_next.ensures c.cols-cols.ensures))
    ]

pub returns-clause-along : goal.returns-clause-along
returns-clause-along c =
    going_ends c.args.now.now c.args.wanted c.args.list.now.items c.args.cache.now.keys c.loop-place.place c.loop-place.at c.loop-place.recent c.loop-place.list.items c.loop-place.cache.keys (search rules) c.loop-place.invariant
