use Rattle.std.proofs.Common.{◌≡◌, take}
use Rattle.viewer_book.specs.Book.{changed}
use Rattle.desk_core.specs.Viewers.{given_all}
use Rattle.desk_core.proofs.desk.read.give_all.Given as goal

-- the frames so far were given
abbrev pub invariant-loop-frame : goal.invariant-loop-frame
invariant-loop-frame l = l.book ≡ changed l.fn.book l.viewer (given_all (take l.frame-index l.frames))
