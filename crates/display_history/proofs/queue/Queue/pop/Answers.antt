use Rattle.std.proofs.Common.{ℕ, List}
use Rattle.display_history.proofs.Places.{taken_away}
use Rattle.display_history.proofs.queue.Queue.pop.Goals as goal

pub returns : goal.returns
returns c =
    let f : ℕ × List ℕ = c.index_mut-oldest.result.now in
    let away = taken_away c.self.inside.frames.items c.args.self.now c.self.inside.front f c.empty.new.self c.self.view_is c.requires c.index_mut-oldest.ensures.value in
    (f.1, rw c.stamp-stamp.ensures away)
