use Rattle.frame_draw.proofs.Leading.{IsFlagging}
use Rattle.frame_draw.proofs.wanted.flags_of_each.Given as goal

-- the places up to this one have their flag
abbrev pub invariant-loop-place : goal.invariant-loop-place
invariant-loop-place l = IsFlagging l.cols l.total l.wanted l.place l.at l.flags.items
