-- What a connection has of the service (this project's own).
use Rattle.std.specs.Prelude.{ℕ, List, Option}
use Rattle.gate_outside.specs.Helpers.{HelperView}
use Rattle.guac_handshake.specs.Views.{DoorView}
use Rattle.http_tunnel.specs.declared.tunnel.Tunnel.{Tunnel}
use Rattle.id_table.specs.Maps.{Shelved}

-- what the door tells, what the shelf of tunnels tells, and the draws of the dice that are to come
pub record GateView : Type 0 where
  pub door : DoorView
  pub tunnels : Option (Shelved Tunnel)
  pub draws : Option (ℕ → List ℕ)

abbrev pub gate_view : DoorView → Option (Shelved Tunnel) → HelperView → GateView
gate_view door tunnels dice = record { door = door; tunnels = tunnels; draws = dice.draws }
