use Rattle.frame_draw.specs.Leads.{AreStruck}
use Rattle.frame_draw.proofs.blanks.strike.Given as goal

-- those up to this one are struck
abbrev pub invariant-loop-place : goal.invariant-loop-place
invariant-loop-place l = AreStruck l.fn.wanted l.wanted l.fn.from l.place
