use Rattle.join_snapshot.proofs.Walking.{IsMaking}
use Rattle.join_snapshot.proofs.maker.make_buffers.Given as goal

abbrev pub invariant-loop-number : goal.invariant-loop-number
invariant-loop-number l = IsMaking l.fn.list.items l.cache l.number l.list.items
