use Rattle.std.proofs.Common.{ℕ, ◌+◌, ◌*◌, ◌≤◌, length, refl, sym, subst}
use Rattle.canvas.proofs.Parts.{cut_length, cut_pixel, overlay_step, row_room}
use Rattle.canvas.proofs.pixels.overlay.Goals as goal

pub loop-row-preserved : goal.loop-row-preserved
loop-row-preserved c =
    let a = c.args.area in
    let row = c.loop-row.row in
    let from = (a.y + row) * c.args.source_width + a.x in
    overlay_step c.args.source.now c.args.target.now c.loop-row.target c.overlay_at.new.pixels c.args.source_width c.args.target_width c.args.x c.args.y a.x a.y a.width row
    _ _ c.requires.target_columns refl
    (row_room (length c.loop-row.target) c.args.y row a.height c.args.target_width c.args.x a.width c.loop-row-test.true c.requires.target_columns (subst (λ (n : ℕ). (c.args.y + a.height) * c.args.target_width ≤ n) (sym c.loop-row.auto.target) c.requires.target_rows))
    (cut_length c.args.source.now from (from + a.width) a.width refl (row_room (length c.args.source.now) a.y row a.height c.args.source_width a.x a.width c.loop-row-test.true c.requires.source_columns c.requires.source_rows))
    (λ k in_run. cut_pixel c.args.source.now c.args.source_width from (from + a.width) a.width a.x a.y row k refl refl in_run)
    c.overlay_at.ensures c.loop-row.invariant
