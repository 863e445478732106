-- What a place that goes back does to its door (this project's own).
use Rattle.std.specs.Prelude.{◌≡◌, Bool, true, false, ℕ, List, Option, Some, IfSome}
use Rattle.guac_handshake.specs.Views.{DoorView, Gives}
use Rattle.id_table.specs.Maps.{Shelved}
use Rattle.http_tunnel.specs.declared.tunnel.Tunnel.{Tunnel}

-- a place went back under a session's ID that is so; or none did, and the door is as it was
abbrev pub HasGiven : (List ℕ → Option (List ℕ)) → (List ℕ → Type 0) → Bool → DoorView → DoorView → Type 0
HasGiven id_of IsSo false before after = after ≡ before
HasGiven id_of IsSo true before after = (name : List ℕ) × IsSo name × Gives (id_of name) before after

-- it is that of the session of the tunnel under this ID
abbrev pub IsOfTunnel : List ℕ → Option (Shelved Tunnel) → List ℕ → Type 0
IsOfTunnel id told name = IfSome told (λ m. (t : Tunnel) × (m id ≡ Some (Some t)) × (name ≡ t.id))
