-- How one request is answered (this project's own).
use Rattle.std.specs.Prelude.{◌≡◌, ℕ, Bool, List, [], Option, Result, Ok, Err}
use Rattle.guac_handshake.specs.Views.{DoorView}
use Rattle.guac_handshake.specs.declared.request.Request.{Request}
use Rattle.guac_handshake.specs.declared.welcome.Welcome.{Welcome}
use Rattle.id_table.specs.Maps.{Same, Shelved, Told}
use Rattle.shared_desk.specs.declared.place.Place.{Place}
use Rattle.http_tunnel.specs.Connects.{OpensTunnel}
use Rattle.http_tunnel.specs.Places.{HasGiven, IsOfTunnel}
use Rattle.http_tunnel.specs.Tunnels.{ReadOf}
use Rattle.http_tunnel.specs.Writes.{WriteOf}
use Rattle.http_front.specs.declared.refusal.Refusal.{Refusal}
use Rattle.http_front.specs.declared.refusal.Refusal.TheVariants.{NotFound, Form, Method, Dial, Busy, Conflict, Forbidden, TooMany, Closed, NoMemory}
use Rattle.http_tunnel.specs.declared.route.Route.{Route}
use Rattle.http_tunnel.specs.declared.route.Route.TheVariants as route
use Rattle.http_tunnel.specs.declared.tunnel.Tunnel.{Tunnel}

abbrev pub without_body : Result (Unit {0}) Refusal → Result (List ℕ) Refusal
without_body (Ok done) = Ok []
without_body (Err refusal) = Err refusal

-- what was done for a request that asks this: of the door its IDs, what it says of itself where it gave a place, and what
-- it tells before and after it; the draws of the dice to come; and what the shelf tells before and after it
abbrev pub Serves : (List ℕ → Option (List ℕ)) → (Request → Welcome Place → Type 0) → DoorView → DoorView → Option (ℕ → List ℕ) → Option (Shelved Tunnel) → Option (Shelved Tunnel) → List ℕ → Result (List ℕ) Refusal → Route → Type 0
Serves id_of gives before after drawn told told_new body answered (route.Refused refusal) = (answered ≡ Err refusal) × (after ≡ before) × Told told told_new Same
Serves id_of gives before after drawn told told_new body answered route.Connect = OpensTunnel id_of gives before after drawn told told_new body answered
Serves id_of gives before after drawn told told_new body answered (route.Read id) = (back : Bool) × HasGiven id_of (IsOfTunnel id told) back before after × Told told told_new (ReadOf id back answered)
Serves id_of gives before after drawn told told_new body answered (route.Write id) =
    (back : Bool) × (done : Result (Unit {0}) Refusal) × (answered ≡ without_body done) × HasGiven id_of (IsOfTunnel id told) back before after × Told told told_new (WriteOf id body back done)

-- the refusals of a tunnel that may be there
abbrev pub IsTunnelRefusal : Refusal → Type 0
IsTunnelRefusal NotFound = Unit {0}
IsTunnelRefusal Form = Unit {0}
IsTunnelRefusal Closed = Unit {0}
IsTunnelRefusal NoMemory = Unit {0}
IsTunnelRefusal Method = ⊥
IsTunnelRefusal Dial = ⊥
IsTunnelRefusal Busy = ⊥
IsTunnelRefusal Conflict = ⊥
IsTunnelRefusal Forbidden = ⊥
IsTunnelRefusal TooMany = ⊥
