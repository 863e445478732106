-- What a take gives (this project's own).
use Rattle.std.specs.Prelude.{◌≡◌, ℕ, ◌+◌, ◌≤◌, List, length, take, drop}
use Rattle.gate_model.specs.session.History.{History}
use Rattle.gate_model.specs.session.Output.{out, taken}
use Rattle.gate_model.specs.Sequences.{BeginsWith}

-- a buffer was written to its first bytes alone, so many
pub record Fills (count : ℕ) (before after : List ℕ) : Type 0 where
  pub within : count ≤ length before
  pub rest : drop count after ≡ drop count before

-- these bytes, so many, are the next of what the session sends, past those that were taken before; and what it had sent
-- stays
pub record TakesNext (most : ℕ) (before after : History) (bytes : List ℕ) (count : ℕ) : Type 0 where
  pub next : bytes ≡ take most (drop (taken before) (out after))
  pub taken : taken after ≡ taken before + count
  pub sent : BeginsWith (out after) (out before)
