-- What a host's fields keep, as contracts see it (this project's own).
use Rattle.std.specs.Prelude.{◌≡◌, ℕ, Option, Some, None, is_none}
use Rattle.atomic_table.specs.Seated.{TableId}
use Rattle.shared_desk.specs.Hosts.{HostState, IsHost}
use Rattle.shared_desk.specs.Members.{PassState}

abbrev pub host_state : PassState → Option TableId → ℕ → HostState
host_state m spare out = record { session = m.session; view = m.view; linked = is_none spare; out = out }

-- the spare owners are of the host's lock
abbrev pub AreSpare : TableId → Option TableId → Type 0
AreSpare session None = Unit {0}
AreSpare session (Some spare) = spare ≡ session

pub record KeepsHost (m : PassState) (owners : Option TableId) (out : ℕ) : Type 0 where
  pub host : IsHost (host_state m owners out)
  pub spare : AreSpare m.session owners
