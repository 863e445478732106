use Rattle.id_table.proofs.Apart.{apart}
use Rattle.id_table.proofs.id_table.IdTable.remove.Goals as goal

pub returns-clause-changed : goal.returns-clause-changed
returns-clause-changed g c = let h = c.remove.ensures.updates in (h.1, λ k ne. h.2 k (apart c.args.id.now k ne))
