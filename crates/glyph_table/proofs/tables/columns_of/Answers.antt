use Rattle.std.proofs.Common.{arith}
use Rattle.glyph_table.proofs.GlyphRects.{columns_row}
use Rattle.glyph_table.proofs.tables.columns_of.Goals as goal

pub returns-in-32-to-126 : goal.returns-in-32-to-126
returns-in-32-to-126 c = columns_row _ c.args.face (omega arith) (omega arith)
