use Rattle.std.proofs.Common.{◌≡◌, ◌<◌, ◌≤◌, ap, length, sym, ◌∙◌, arith}
use Rattle.glyph_table.specs.GlyphRects.{columns_rects, rects, with_underline}
use Rattle.glyph_table.proofs.GlyphRects.{columns_few, of_columns, of_bars, bars_few, ends_underlined, ends_plain, rects_cover, rects_apart, rects_few, rects_inside, length-bars}
use Rattle.glyph_table.proofs.rects.rects_of.Goals as goal
use Rattle.glyph_table.proofs.rects.rects_of.Goals.{then-has_bars, else-has_bars}

pub add-requires : goal.add-requires
add-requires c = elim c.if-has_bars.branch [
  | then-has_bars w ↦ omega (arith, ap length (w.rects-is ∙ w.add_bars.ensures), length-bars c.args.face c.args.under, bars_few c.args.face (sym c.has_bars.ensures ∙ w.if-has_bars.true))
  | else-has_bars w ↦ omega (arith, ap length (w.rects-is ∙ w.add_columns.ensures), columns_few 5 c.args.under w.columns_of.result)
]

pub returns-then-under : goal.returns-then-under
returns-then-under c =
    let face = c.args.face in
    let under = c.args.under in
    let first : with_underline under c.if-has_bars.rects ≡ rects face under = elim c.if-has_bars.branch [
      | then-has_bars w ↦ of_bars face under c.if-has_bars.rects (sym c.has_bars.ensures ∙ w.if-has_bars.true) (w.rects-is ∙ w.add_bars.ensures)
      | else-has_bars w ↦ of_columns face under c.if-has_bars.rects (sym c.has_bars.ensures ∙ w.if-has_bars.false) (w.rects-is ∙ (w.add_columns.ensures ∙ ap (columns_rects 5 under) w.columns_of.ensures))
    ] in
    let e = ends_underlined face under c.if-has_bars.rects c.add.new.self c.if-under.true first c.add.ensures in
    record {
      listed = e;
      cover = λ x y in_x in_y. rw e (rects_cover face under x y in_x in_y);
      apart = rw e (rects_apart face under);
      few = rw e (rects_few face under);
      inside = rw e (rects_inside face under);
    }

pub returns-else-under : goal.returns-else-under
returns-else-under c =
    let face = c.args.face in
    let under = c.args.under in
    let first : with_underline under c.if-has_bars.rects ≡ rects face under = elim c.if-has_bars.branch [
      | then-has_bars w ↦ of_bars face under c.if-has_bars.rects (sym c.has_bars.ensures ∙ w.if-has_bars.true) (w.rects-is ∙ w.add_bars.ensures)
      | else-has_bars w ↦ of_columns face under c.if-has_bars.rects (sym c.has_bars.ensures ∙ w.if-has_bars.false) (w.rects-is ∙ (w.add_columns.ensures ∙ ap (columns_rects 5 under) w.columns_of.ensures))
    ] in
    let e = ends_plain face under c.if-has_bars.rects c.if-under.false first in
    record {
      listed = e;
      cover = λ x y in_x in_y. rw e (rects_cover face under x y in_x in_y);
      apart = rw e (rects_apart face under);
      few = rw e (rects_few face under);
      inside = rw e (rects_inside face under);
    }
