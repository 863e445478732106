use Rattle.join_snapshot.specs.Snapshot.{AddsCells}
use Rattle.join_snapshot.proofs.maker.draw_places.Given as goal

abbrev pub invariant-loop-place : goal.invariant-loop-place
invariant-loop-place l = AddsCells l.cache.keys l.now l.wanted l.fn.list.items l.place l.list.items
