-- The search would find this. It stands here so that a wrong body is refused for what it means, and not
-- since the search reaches a limit.
use Rattle.std.proofs.Common.{ap}
use Rattle.std.specs.Prelude.{option_map}
use Rattle.viewer_book.specs.declared.viewer.Viewer.{Viewer}
use Rattle.viewer_book.proofs.book.Book.ended.Goals as goal

pub returns : goal.returns
returns c = ap (option_map (λ (v : Viewer). v.ended)) c.viewer.ensures
