-- What a table holds, and what it lends.
use Rattle.std.specs.Prelude.{ℕ, List, Option, Some, OnSome}
use Rattle.std.specs.Borrow.{Fml, LendsSo, MutBor, RattleType}
use Rattle.std.specs.BTreeMap.{get}
use Rattle.std.specs.Cmp.Lexicographic.{slice_cmp}
use Rattle.std.specs.Ordering.{nat_cmp}
use Rattle.id_table.specs.declared.id_table.IdTable.{IdTable}
use Rattle.id_table.specs.contracts.id_table.IdTable.{the_row}
use Rattle.id_table.specs.Maps.{Changed, Map, Same}

-- the table as a map
abbrev pub held : {V : Type 0} → IdTable V → Map V
held table id = get (slice_cmp nat_cmp) table.values id

-- the table ends with the last value behind the reference under the ID, or as it was where there is no reference
abbrev pub LendsValue : (V : RattleType) → MutBor (IdTable V.Denot) → List ℕ → Option (MutBor V.Denot) → Fml
LendsValue V table id r = LendsSo (the_row V) V table r (λ n w. OnSome r (Changed id (Some w) (held table.now) (held n))) (λ n. Same (held table.now) (held n))
