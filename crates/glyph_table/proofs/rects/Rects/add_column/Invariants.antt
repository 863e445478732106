use Rattle.std.proofs.Common.{◌≡◌, ◌<◌, ◌++◌, slice_index}
use Rattle.glyph_table.specs.GlyphRects.{column_rects}
use Rattle.glyph_table.proofs.rects.Rects.add_column.Given as goal

abbrev pub invariant-loop-left : goal.invariant-loop-left
invariant-loop-left l = record {
  fits : l.left < 256;
  joined : l.self ++ column_rects l.i l.under l.columns l.left ≡ l.fn.self ++ column_rects l.i l.under l.columns (slice_index l.columns l.i);
}

abbrev pub decreases-loop-left : goal.decreases-loop-left
decreases-loop-left l = l.left
