use Rattle.std.proofs.Common.{false}
use Rattle.std.specs.Fn.{FnReturnsAt}
use Rattle.id_table.proofs.Sweeping.{AreRead}
use Rattle.id_table.proofs.plain_shelf.PlainShelf.least_done.Given as goal

abbrev pub invariant-loop-id : goal.invariant-loop-id
invariant-loop-id g l = AreRead (λ v. FnReturnsAt g.F.Fn l.fn.done v false) l.fn.self.slots.values.entries l.id-iterator
