-- What a screen shows, as contracts see it.
use Rattle.std.specs.Prelude.{ℕ, List}
use Rattle.gate_model.specs.declared.key.Key.{Key}

-- columns, rows, and the key of each place, row by row
pub record KeyGrid : Type 0 where
  pub cols : ℕ
  pub rows : ℕ
  pub keys : List Key
