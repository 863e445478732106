-- The history that a desk carries, which no memory holds, and the number of its entries (this project's
-- own).
use Rattle.std.specs.Prelude.{ℕ, ◌+◌, List, ◌∷◌}
use Rattle.gate_model.specs.declared.entry.Entry.{Entry}

pub record LogState : Type 0 where
  pub past : List Entry
  pub entries : ℕ

-- one entry more
abbrev pub with_entry : LogState → Entry → LogState
with_entry l e = record { past = e ∷ l.past; entries = l.entries + 1 }
