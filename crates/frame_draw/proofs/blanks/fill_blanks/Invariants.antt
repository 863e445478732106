use Rattle.std.proofs.Common.{◌-◌, length}
use Rattle.frame_draw.specs.Leads.{Leads}
use Rattle.frame_draw.proofs.blanks.fill_blanks.Given as goal

-- what was filled up to this place
abbrev pub invariant-loop-place : goal.invariant-loop-place
invariant-loop-place l = Leads l.now l.fn.list.items l.fn.wanted l.list.items l.wanted

abbrev pub decreases-loop-place : goal.decreases-loop-place
decreases-loop-place l = length l.now.keys - l.place
