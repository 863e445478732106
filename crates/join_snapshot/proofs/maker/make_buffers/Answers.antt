use Rattle.std.proofs.Common.{rules}
use Rattle.join_snapshot.proofs.Walking.{making_ends}
use Rattle.join_snapshot.proofs.maker.make_buffers.Goals as goal

pub returns-clause-made : goal.returns-clause-made
returns-clause-made c = making_ends c.args.list.now.items c.loop-number.list.items c.args.cache.now c.loop-number.number (search rules) c.loop-number.invariant
