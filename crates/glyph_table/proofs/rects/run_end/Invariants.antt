use Rattle.std.proofs.Common.{◌≡◌, ◌-◌, ◌≤◌}
use Rattle.glyph_table.specs.GlyphRects.{run_end}
use Rattle.glyph_table.proofs.rects.run_end.Given as goal

abbrev pub invariant-loop-j : goal.invariant-loop-j
invariant-loop-j l = record {
  on : l.i ≤ l.j;
  ends : run_end (5 - l.j) l.first l.end l.columns l.j ≡ run_end (5 - l.i) l.first l.end l.columns l.i;
}
