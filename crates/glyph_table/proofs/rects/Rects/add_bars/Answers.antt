use Rattle.std.proofs.Common.{◌≡◌, ◌+◌, ◌-◌, ℕ, ap, sym, ◌∙◌, length, map, slice_index, arith}
use Rattle.std.specs.Prelude.{slice_range}
use Rattle.glyph_table.specs.GlyphRects.{bar_codes, bar_of, bar_patch, bar_starts}
use Rattle.glyph_table.proofs.GlyphRects.{bars_few}
use Rattle.glyph_table.proofs.BarTable.{entry, patches_few, patches_more, patches_none}
use Rattle.glyph_table.proofs.rects.Rects.add_bars.Goals as goal

pub bar_at-requires : goal.bar_at-requires
bar_at-requires c = omega (arith, c.loop-i-test.true, c.start_of-i-end.ensures, (entry c.args.face c.requires.bars).ends)

pub loop-i-init : goal.loop-i-init
loop-i-init c = record {
  on = omega (arith, c.start_of-i.ensures);
  added = c.requires.none ∙ (sym (patches_none c.args.under (slice_index bar_starts (c.args.face - 0x2500)))
      ∙ ap (λ (i : ℕ). map (bar_patch c.args.under) (map bar_of (slice_range bar_codes (slice_index bar_starts (c.args.face - 0x2500)) i))) (sym c.start_of-i.ensures));
}

pub add-requires : goal.add-requires
add-requires c =
    let e = entry c.args.face c.requires.bars in
    omega (arith, ap length c.loop-i.invariant.added, patches_few c.args.face c.args.under c.loop-i.i (omega (arith, c.loop-i-test.true, c.start_of-i-end.ensures)) e, bars_few c.args.face c.requires.bars)

pub loop-i-preserved : goal.loop-i-preserved
loop-i-preserved c =
    let e = entry c.args.face c.requires.bars in
    record {
      on = omega (arith, c.loop-i.invariant.on);
      added = patches_more c.loop-i.self c.add.new.self c.args.under (slice_index bar_starts (c.args.face - 0x2500)) c.loop-i.i c.bar_at.result c.bar_patch.result c.loop-i.invariant.on
          (omega (arith, c.loop-i-test.true, c.start_of-i-end.ensures, e.ends)) c.bar_at.ensures c.bar_patch.ensures c.loop-i.invariant.added c.add.ensures;
    }

pub returns : goal.returns
returns c =
    let e = entry c.args.face c.requires.bars in
    let end : c.loop-i.i ≡ slice_index bar_starts (c.args.face - 0x2500 + 1) = omega (arith, c.loop-i-test.false, c.start_of-i-end.ensures, c.start_of-i.ensures, e.ordered, c.loop-i.auto.i-end (omega (arith, c.start_of-i-end.ensures, c.start_of-i.ensures, e.ordered))) in
    c.loop-i.invariant.added ∙ (ap (λ (i : ℕ). map (bar_patch c.args.under) (map bar_of (slice_range bar_codes (slice_index bar_starts (c.args.face - 0x2500)) i))) end ∙ ap (map (bar_patch c.args.under)) e.are)
