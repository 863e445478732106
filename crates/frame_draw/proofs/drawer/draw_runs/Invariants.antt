use Rattle.frame_draw.proofs.Drawing.{IsDrawing}
use Rattle.frame_draw.proofs.drawer.draw_runs.Given as goal

abbrev pub invariant-loop-place : goal.invariant-loop-place
invariant-loop-place l = IsDrawing l.now l.fn.list.items l.fn.cache.keys l.fn.wanted l.place l.recent l.list.items l.wanted l.cache.keys
