use Rattle.std.proofs.Common.{◌≡◌, ap, length, sym, ◌∙◌, arith, ℕ}
use Rattle.glyph_table.specs.GlyphRects.{columns_rects}
use Rattle.glyph_table.proofs.GlyphRects.{columns_few, columns_none, columns_added}
use Rattle.glyph_table.proofs.rects.Rects.add_columns.Goals as goal

pub add_column-requires-clause-room : goal.add_column-requires-clause-room
add_column-requires-clause-room c = omega (arith, ap length c.loop-i.invariant, columns_few c.loop-i.i c.args.under c.args.columns)

pub loop-i-init : goal.loop-i-init
loop-i-init c = c.requires ∙ sym (columns_none c.args.under c.args.columns)

pub loop-i-preserved : goal.loop-i-preserved
loop-i-preserved c = columns_added c.loop-i.self c.add_column.new.self c.loop-i.i c.args.under c.args.columns c.loop-i.invariant c.add_column.ensures

pub returns : goal.returns
returns c = let end : c.loop-i.i ≡ 5 = omega (arith, c.loop-i-test.false) in c.loop-i.invariant ∙ ap (λ (n : ℕ). columns_rects n c.args.under c.args.columns) end
