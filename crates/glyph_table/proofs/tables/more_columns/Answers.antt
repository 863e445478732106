use Rattle.std.proofs.Common.{ap, sym, ◌∙◌}
use Rattle.gate_model.specs.picture.Glyphs.{columns_by}
use Rattle.glyph_table.proofs.GlyphRects.{found_columns, no_columns}
use Rattle.glyph_table.proofs.tables.more_columns.Goals as goal

pub returns-in-Some : goal.returns-in-Some
returns-in-Some c = found_columns c.in-Some.n c.if-n-lt284.true ∙ sym (ap columns_by c.in-Some.is)

pub returns-in_default : goal.returns-in_default
returns-in_default c = no_columns c.in-Some.n c.if-n-lt284.false ∙ sym (ap columns_by c.in-Some.is)
