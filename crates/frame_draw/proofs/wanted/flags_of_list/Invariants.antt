use Rattle.std.proofs.Common.{take}
use Rattle.frame_draw.proofs.Marking.{AreMarked}
use Rattle.frame_draw.proofs.wanted.flags_of_list.Given as goal

-- the places of the first entries have their flag
abbrev pub invariant-loop-entry : goal.invariant-loop-entry
invariant-loop-entry l = AreMarked l.cols l.total (take l.entry-index l.list) l.flags.items
