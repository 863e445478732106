use Rattle.std.proofs.Common.{◌≡◌, ◌+◌, map, slice_index}
use Rattle.std.specs.Prelude.{slice_range}
use Rattle.std.specs.List.{list_any}
use Rattle.gate_model.specs.picture.Lines.{is_on}
use Rattle.glyph_table.specs.GlyphRects.{bar_codes, bar_of, bar_starts}
use Rattle.glyph_table.proofs.bars.in_bars.Given as goal

abbrev pub invariant-loop-i : goal.invariant-loop-i
invariant-loop-i l = list_any (is_on l.x l.y) (map bar_of (slice_range bar_codes l.i (slice_index bar_starts (l.n + 1)))) ≡ list_any (is_on l.x l.y) (map bar_of (slice_range bar_codes (slice_index bar_starts l.n) (slice_index bar_starts (l.n + 1))))
