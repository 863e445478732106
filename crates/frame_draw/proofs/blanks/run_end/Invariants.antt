use Rattle.frame_draw.proofs.Alike.{IsSame}
use Rattle.frame_draw.proofs.blanks.run_end.Given as goal

-- the places up to this one have the first one's key
abbrev pub invariant-loop-end : goal.invariant-loop-end
invariant-loop-end l = IsSame l.keys l.place l.end
