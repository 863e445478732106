use Rattle.std.proofs.Common.{arith}
use Rattle.glyph_table.proofs.GlyphRects.{step, room, run_added, ends}
use Rattle.glyph_table.proofs.rects.Rects.add_column.Goals as goal

pub add_run-requires-clause-room : goal.add_run-requires-clause-room
add_run-requires-clause-room c =
    let s = step c.loop-left.left (omega arith) c.loop-left.invariant.fits in
    rw s.shift (room c.loop-left.self c.args.self.now c.args.i c.args.under c.args.columns c.loop-left.left _ (omega arith) c.loop-left.invariant.fits c.requires.room c.loop-left.invariant.joined)

pub add_run-requires-clause-some : goal.add_run-requires-clause-some
add_run-requires-clause-some c =
    let s = step c.loop-left.left (omega arith) c.loop-left.invariant.fits in
    rw s.shift s.some

pub add_run-requires-clause-eight_bits : goal.add_run-requires-clause-eight_bits
add_run-requires-clause-eight_bits c =
    let s = step c.loop-left.left (omega arith) c.loop-left.invariant.fits in
    rw s.shift s.eight

pub loop-left-smaller : goal.loop-left-smaller
loop-left-smaller c =
    let s = step c.loop-left.left (omega arith) c.loop-left.invariant.fits in
    rw s.shift s.less

pub loop-left-preserved : goal.loop-left-preserved
loop-left-preserved c =
    let s = step c.loop-left.left (omega arith) c.loop-left.invariant.fits in
    rw s.shift record {
      fits = omega (arith, s.less);
      joined = run_added c.loop-left.self c.add_run.new.self c.args.i c.args.under c.args.columns c.loop-left.left _ (omega arith) c.loop-left.invariant.fits (rw s.shift at c.add_run.ensures) c.loop-left.invariant.joined;
    }

pub returns : goal.returns
returns c = ends c.loop-left.self c.args.i c.args.under c.args.columns c.loop-left.left _ (omega arith) c.loop-left.invariant.joined
