use Rattle.std.proofs.Common.{◌+◌, ap, sym, ◌∙◌, slice_index, ◌-◌, arith}
use Rattle.std.specs.List.{list_any}
use Rattle.gate_model.specs.picture.Lines.{is_on}
use Rattle.glyph_table.specs.GlyphRects.{bar_starts}
use Rattle.glyph_table.proofs.BarTable.{any_next, any_to, entry, or_true, or_false}
use Rattle.glyph_table.proofs.bars.in_bars.Goals as goal

pub bar_at-requires : goal.bar_at-requires
bar_at-requires c = omega (arith, c.loop-i-test.true, c.start_of-i-end.ensures, (entry c.args.face c.requires).ends)

pub returns-then-is_on : goal.returns-then-is_on
returns-then-is_on c =
    let e = entry c.args.face c.requires in
    let to = slice_index bar_starts (c.args.face - 0x2500 + 1) in
    sym (or_true _ _ (sym c.is_on.ensures ∙ c.if-is_on.true)) ∙ (sym (any_next c.args.x c.args.y c.loop-i.i to c.bar_at.result (omega (arith, c.loop-i-test.true, c.start_of-i-end.ensures)) e.ends c.bar_at.ensures)
    ∙ (c.loop-i.invariant ∙ ap (list_any (is_on c.args.x c.args.y)) e.are))

pub loop-i-preserved : goal.loop-i-preserved
loop-i-preserved c =
    let e = entry c.args.face c.requires in
    let to = slice_index bar_starts (c.args.face - 0x2500 + 1) in
    sym (or_false _ _ (sym c.is_on.ensures ∙ c.if-is_on.false)) ∙ (sym (any_next c.args.x c.args.y c.loop-i.i to c.bar_at.result (omega (arith, c.loop-i-test.true, c.start_of-i-end.ensures)) e.ends c.bar_at.ensures)
    ∙ c.loop-i.invariant)

pub returns : goal.returns
returns c =
    let e = entry c.args.face c.requires in
    let to = slice_index bar_starts (c.args.face - 0x2500 + 1) in
    sym (any_to c.args.x c.args.y c.loop-i.i to (omega (arith, c.loop-i-test.false, c.start_of-i-end.ensures, c.start_of-i.ensures, e.ordered, c.loop-i.auto.i-end (omega (arith, c.start_of-i-end.ensures, c.start_of-i.ensures, e.ordered))))) ∙ (c.loop-i.invariant ∙ ap (list_any (is_on c.args.x c.args.y)) e.are)
