use Rattle.std.proofs.Common.{ap, refl}
use Rattle.id_table.specs.Tables.{held}
use Rattle.id_table.proofs.Apart.{apart, on_found}
use Rattle.id_table.proofs.id_table.IdTable.get_mut.Goals as goal

pub returns : goal.returns
returns g c = (
  (
    refl,
    λ w. on_found c.get_mut.result _ _ c.get_mut.ensures.value
        (λ there. let h = (c.get_mut.follows.holds w).3 there in (h.1, λ k ne. h.2 k (apart c.args.id.now k ne))),
    λ k. ap (λ values. held (record { values = values }) k) c.get_mut.follows.holds-at-none,
  ),
  record { writes_back = tt; value = c.get_mut.ensures.value },
)
