use Rattle.std.proofs.Common.{rules, ◌<◌, true, false, length, refl, arith}
use Rattle.frame_draw.proofs.Drawing.{drawing_cell, drawing_ends, drawing_none, drawing_passed, flag_is}
use Rattle.frame_draw.proofs.Holding.{none_held}
use Rattle.frame_draw.proofs.Walking.{copy_added, read_is, still_kept}
use Rattle.frame_draw.proofs.drawer.draw_runs.Goals as goal
use Rattle.frame_draw.proofs.drawer.draw_runs.Goals.{then-wanted-place+in_ok-push, else-wanted-place}

pub loop-place-init : goal.loop-place-init
loop-place-init c = drawing_none c.args.now.now c.args.list.now.items c.args.cache.now.keys c.args.wanted.now _ (none_held c.args.cache.now.keys)

pub returns-in_err-buffer-clause-kept : goal.returns-in_err-buffer-clause-kept
returns-in_err-buffer-clause-kept c =
    still_kept c.args.now.now c.args.cache.now.keys c.loop-place.cache.keys c.hold.new.cache.keys c.loop-place.place _ (search rules)
    (read_is c.as_slice-keys.result.now c.args.now.now.keys c.loop-place.place _ c.as_slice-keys.ensures.keys c.loop-place-test.true)
    c.loop-place.invariant.kept c.in_err-buffer.ensures.kept

pub returns-in_err-copy_run-clause-kept : goal.returns-in_err-copy_run-clause-kept
returns-in_err-copy_run-clause-kept c =
    still_kept c.args.now.now c.args.cache.now.keys c.loop-place.cache.keys c.hold.new.cache.keys c.loop-place.place _ (search rules)
    (read_is c.as_slice-keys.result.now c.args.now.now.keys c.loop-place.place _ c.as_slice-keys.ensures.keys c.loop-place-test.true)
    c.loop-place.invariant.kept c.in_ok-buffer.ensures.kept

pub returns-in_err-push-clause-kept : goal.returns-in_err-push-clause-kept
returns-in_err-push-clause-kept c =
    still_kept c.args.now.now c.args.cache.now.keys c.loop-place.cache.keys c.hold.new.cache.keys c.loop-place.place _ (search rules)
    (read_is c.as_slice-keys.result.now c.args.now.now.keys c.loop-place.place _ c.as_slice-keys.ensures.keys c.loop-place-test.true)
    c.loop-place.invariant.kept c.in_ok-buffer.ensures.kept

pub loop-place-preserved : goal.loop-place-preserved
loop-place-preserved c =
    let now = c.args.now.now in
    let g = c.loop-place.invariant in
    let led = c.in_ok-copy_run.ensures in
    let here : c.loop-place.place < length now.keys = search rules in
    let within : c.loop-place.place < length c.copy_run.new.wanted = omega (arith, led.alike, g.goes.alike, c.requires.all, here) in
    elim c.if-wanted-place.branch [
      | then-wanted-place+in_ok-push w ↦
          rw (w.list-is, w.wanted-is)
          (drawing_cell now c.args.list.now.items c.args.cache.now.keys c.args.wanted.now c.loop-place.place c.loop-place.recent c.loop-place.list.items c.loop-place.wanted c.loop-place.cache.keys
          _ c.in_ok-buffer.buffer c.hold.new.list.items c.hold.new.cache.keys
          record { in_place = here; read = read_is c.as_slice-keys.result.now now.keys c.loop-place.place _ c.as_slice-keys.ensures.keys c.loop-place-test.true; named = c.in_ok-buffer.ensures.key; holds = c.in_ok-buffer.ensures.held; kept = c.in_ok-buffer.ensures.kept }
          g c.hold.new.recent c.in_ok-buffer.ensures.recent c.copy_run.new.list.items c.copy_run.new.wanted led w.push.new.self.items _ c.requires.size c.as_slice-keys.ensures.full within
          (flag_is c.copy_run.new.wanted c.loop-place.place _ true within w.if-wanted-place.true)
          (copy_added c.copy_run.new.list.items w.push.new.self.items w.copy_to.result _ c.in_ok-buffer.buffer.layer c.loop-place.place c.cols.result now.cols w.in_ok-push.ensures.items w.copy_to.ensures (search rules) c.cols.ensures)
          refl)
      | else-wanted-place w ↦
          rw (w.list-is, w.wanted-is)
          (drawing_passed now c.args.list.now.items c.args.cache.now.keys c.args.wanted.now c.loop-place.place c.loop-place.recent c.loop-place.list.items c.loop-place.wanted c.loop-place.cache.keys
          _ c.in_ok-buffer.buffer c.hold.new.list.items c.hold.new.cache.keys
          record { in_place = here; read = read_is c.as_slice-keys.result.now now.keys c.loop-place.place _ c.as_slice-keys.ensures.keys c.loop-place-test.true; named = c.in_ok-buffer.ensures.key; holds = c.in_ok-buffer.ensures.held; kept = c.in_ok-buffer.ensures.kept }
          g c.hold.new.recent c.in_ok-buffer.ensures.recent c.copy_run.new.list.items c.copy_run.new.wanted led
          (flag_is c.copy_run.new.wanted c.loop-place.place _ false within w.if-wanted-place.false))
    ]

pub returns-clause-goes : goal.returns-clause-goes
returns-clause-goes c =
    drawing_ends c.args.now.now c.args.list.now.items c.args.cache.now.keys c.args.wanted.now c.loop-place.place c.loop-place.recent c.loop-place.list.items c.loop-place.wanted c.loop-place.cache.keys (search rules) c.loop-place.invariant
