use Rattle.std.proofs.Common.{refl}
use Rattle.gate_model.specs.picture.Lines.{bars}
use Rattle.glyph_table.specs.GlyphRects.{bar_codes}
use Rattle.glyph_table.proofs.bars.bar_at.Goals as goal

pub returns : goal.returns
unfolding bar_codes bars
returns c = refl
