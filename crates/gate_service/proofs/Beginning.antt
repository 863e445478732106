-- The first byte that was looked at is that of what is left.
use Rattle.std.proofs.Common.{◌≡◌, ℕ, List, Option, Some, None, subst}
use Rattle.gate_service.specs.Connections.{Begins}
use Rattle.gate_service.specs.Lookaheads.{IsFirst}

begins_so : (P : ℕ → Type 0) (left : Option (List ℕ)) (byte : ℕ) → IsFirst left (Some byte) → P byte → Begins P left
begins_so P None byte first p = tt
begins_so P (Some bytes) byte first p = (byte, first.0, first.1, p)

pub begins : (P : ℕ → Type 0) (left : Option (List ℕ)) (looked : Option ℕ) (byte : ℕ) → IsFirst left looked → looked ≡ Some byte → P byte → Begins P left
begins P left looked byte first is p = begins_so P left byte (subst (IsFirst left) is first) p
