use Rattle.std.proofs.Common.{◌≡◌}
use Rattle.glyph_table.specs.GlyphRects.{columns_rects}
use Rattle.glyph_table.proofs.rects.Rects.add_columns.Given as goal

abbrev pub invariant-loop-i : goal.invariant-loop-i
invariant-loop-i l = l.self ≡ columns_rects l.i l.under l.columns
