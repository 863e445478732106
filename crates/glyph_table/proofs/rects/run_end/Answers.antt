use Rattle.std.proofs.Common.{◌≡◌, sym, ◌∙◌, arith}
use Rattle.glyph_table.proofs.GlyphRects.{run_goes_on, run_out, run_stops}
use Rattle.glyph_table.proofs.rects.run_end.Goals as goal

pub returns-then-not-has_run-clause-ends : goal.returns-then-not-has_run-clause-ends
returns-then-not-has_run-clause-ends c =
    sym (run_stops c.args.first c.args.end c.args.columns c.loop-j.j c.loop-j-test.true (sym c.has_run.ensures ∙ c.if-not-has_run.true)) ∙ c.loop-j.invariant.ends

pub loop-j-preserved : goal.loop-j-preserved
loop-j-preserved c = record {
  on = omega (arith, c.loop-j.invariant.on);
  ends = sym (run_goes_on c.args.first c.args.end c.args.columns c.loop-j.j c.loop-j-test.true (sym c.has_run.ensures ∙ c.if-not-has_run.false)) ∙ c.loop-j.invariant.ends;
}

pub returns-clause-ends : goal.returns-clause-ends
returns-clause-ends c =
    let behind : c.loop-j.j ≡ 5 = omega (arith, c.loop-j-test.false, c.loop-j.auto.j-end (omega (arith, c.requires.inside))) in
    sym (run_out c.args.first c.args.end c.args.columns c.loop-j.j behind) ∙ c.loop-j.invariant.ends
