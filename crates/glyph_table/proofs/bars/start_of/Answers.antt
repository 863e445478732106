use Rattle.std.proofs.Common.{refl}
use Rattle.gate_model.specs.picture.Lines.{bars}
use Rattle.glyph_table.specs.GlyphRects.{bar_starts}
use Rattle.glyph_table.proofs.bars.start_of.Goals as goal

pub returns : goal.returns
unfolding bar_starts bars
returns c = refl
