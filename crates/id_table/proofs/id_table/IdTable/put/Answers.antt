use Rattle.id_table.proofs.Apart.{apart}
use Rattle.id_table.proofs.id_table.IdTable.put.Goals as goal

pub returns-in-Ok-clause-added : goal.returns-in-Ok-clause-added
returns-in-Ok-clause-added g c = let h = c.in-Ok.ensures.updates in (h.1, λ k ne. h.2 k (apart c.args.id k ne))
