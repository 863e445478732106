-- A session that its recorder joins, before it stands in the table.
use Rattle.std.proofs.Common.{◌≡◌, Bool, true, sym, subst}
use Rattle.gate_model.specs.Sequences.{IsLater}
use Rattle.gate_model.specs.session.History.{History}
use Rattle.service_door.specs.Recorders.{HasSeen}

-- what a host has seen where a recorder is wanted: what it saw before, and more
pub wanted_seen : (wanted : Bool) (h g : History) → wanted ≡ true → IsLater h g → HasSeen wanted h g
wanted_seen wanted h g is later = subst (λ (b : Bool). HasSeen b h g) (sym is) later
