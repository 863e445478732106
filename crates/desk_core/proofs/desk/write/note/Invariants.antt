use Rattle.std.proofs.Common.{◌≡◌, take}
use Rattle.viewer_book.specs.Book.{changed}
use Rattle.desk_core.specs.Viewers.{noted}
use Rattle.desk_core.proofs.desk.write.note.Given as goal

-- the acts so far were heeded
abbrev pub invariant-loop-act : goal.invariant-loop-act
invariant-loop-act l = l.book ≡ changed l.fn.book l.viewer (noted l.fn.held (take l.act-index l.acts))
