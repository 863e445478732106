use Rattle.std.proofs.Common.{inl, inr, arith}
use Rattle.gate_script.proofs.ShownLaws.{taken_here, taken_nowhere}
use Rattle.gate_script.proofs.session.Session.drop_canvas.Goals.{else-place-ge1-via-then-place-ge1+else-place-len, else-place-ge1-via-else-place-ge1}
use Rattle.gate_script.proofs.session.Session.drop_canvas.Goals as goal

pub returns-else-place-ge1-clause-gone : goal.returns-else-place-ge1-clause-gone
returns-else-place-ge1-clause-gone c = taken_nowhere c.args.self.now.canvases.items c.args.viewer
    (elim c.else-place-ge1.branch [
      | else-place-ge1-via-then-place-ge1+else-place-len w ↦ inr (omega (arith, w.if-place-len.false, w.len.ensures))
      | else-place-ge1-via-else-place-ge1 w ↦ inl (omega (arith, w.if-place-ge1.false))
    ])

pub returns-then-place-len-clause-gone : goal.returns-then-place-len-clause-gone
returns-then-place-len-clause-gone c = taken_here c.args.self.now.canvases.items c.args.viewer (omega (arith, c.if-place-ge1.true)) (omega (arith, c.if-place-len.true, c.len.ensures))
