use Rattle.std.proofs.Common.{◌≡◌, ◌++◌, take}
use Rattle.desk_core.specs.Frames.{joined_texts}
use Rattle.desk_core.proofs.giving.put_frames.Given as goal

-- the texts of the frames so far were appended
abbrev pub invariant-loop-frame : goal.invariant-loop-frame
invariant-loop-frame l = l.into.items ≡ l.fn.into.items ++ joined_texts (take l.frame-index l.frames)
