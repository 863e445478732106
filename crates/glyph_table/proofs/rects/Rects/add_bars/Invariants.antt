use Rattle.std.proofs.Common.{◌≡◌, ◌≤◌, map, slice_index}
use Rattle.std.specs.Prelude.{slice_range}
use Rattle.glyph_table.specs.GlyphRects.{bar_codes, bar_of, bar_patch, bar_starts}
use Rattle.glyph_table.proofs.rects.Rects.add_bars.Given as goal

abbrev pub invariant-loop-i : goal.invariant-loop-i
invariant-loop-i l = record {
  on : slice_index bar_starts l.n ≤ l.i;
  added : l.self ≡ map (bar_patch l.under) (map bar_of (slice_range bar_codes (slice_index bar_starts l.n) l.i));
}
