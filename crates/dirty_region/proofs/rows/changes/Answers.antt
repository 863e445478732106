use Rattle.std.proofs.Common.{◌<◌, ap, sym, subst, ◌∙◌}
use Rattle.gate_model.specs.session.Cost.{is_changed, old_row}
use Rattle.dirty_region.proofs.Differing.{changed_at, next_row}
use Rattle.dirty_region.proofs.rows.changes.Goals as goal

pub loop-y-preserved : goal.loop-y-preserved
loop-y-preserved c =
    let old = c.args.old.now in
    let new = c.args.new.now in
    next_row old new (is_changed old new c.args.shift) c.loop-y.y c.old_row.result c.cols-columns.result c.as_slice-before.result.now c.as_slice-after.result.now
    (λ x lt. changed_at old new c.args.shift c.loop-y.y c.requires.cols c.old_row.result x (c.old_row.ensures.row ∙ ap (λ r. old_row c.args.shift r c.loop-y.y) (c.rows.ensures ∙ sym c.requires.rows)) lt)
    c.cols-columns.ensures c.as_slice-before.ensures.keys c.as_slice-after.ensures.keys
    (subst (λ n. c.loop-y.y < n) c.rows-y-end.ensures c.loop-y-test.true)
    c.as_slice-after.ensures.full
    c.loop-y.held.items c.add_row.new.held.items c.loop-y.invariant c.in_ok-add_row.ensures
