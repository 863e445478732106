use Rattle.std.proofs.Common.{◌+◌, ◌*◌, length, refl}
use Rattle.canvas.proofs.Parts.{cut_length, cut_pixel, part_step, row_room}
use Rattle.canvas.proofs.pixels.take_part.Goals as goal

pub loop-row-preserved : goal.loop-row-preserved
loop-row-preserved c =
    let a = c.args.area in
    let row = c.loop-row.row in
    let from = (a.y + row) * c.args.width + a.x in
    part_step c.loop-row.part.items _ c.extend_from_slice.new.self.items a.width row _
    (cut_length c.args.pixels.now from (from + a.width) a.width refl (row_room (length c.args.pixels.now) a.y row a.height c.args.width a.x a.width c.loop-row-test.true c.requires.columns c.requires.rows))
    (λ k in_run. cut_pixel c.args.pixels.now c.args.width from (from + a.width) a.width a.x a.y row k refl refl in_run)
    c.in_ok-extend_from_slice.ensures.items c.loop-row.invariant
