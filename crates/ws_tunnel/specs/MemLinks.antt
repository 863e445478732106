-- A link in memory, which fails at listed calls (this project's own).
use Rattle.std.specs.Prelude.{ℕ, List, Bool, if◌then◌else◌}
use Rattle.gate_outside.specs.Edge.{one_more}
use Rattle.gate_outside.specs.Memory.{is_listed}

-- the messages that are left and those that were sent, the oldest first; the numbers of the calls that fail, and how many
-- calls and faults there were
pub record MemLink : Type 0 where
  pub left : List (List ℕ)
  pub sent : List (List ℕ)
  pub fail : List ℕ
  pub calls : ℕ
  pub faults : ℕ

-- its next call fails
abbrev pub link_fails : MemLink → Bool
link_fails s = is_listed s.fail (one_more s.calls)

-- the link once that call was counted
abbrev pub link_called : MemLink → MemLink
link_called s = record s { calls = one_more s.calls; faults = if link_fails s then one_more s.faults else s.faults }
