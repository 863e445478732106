use Rattle.guac_handshake.specs.Doors.{Grants}
use Rattle.std.proofs.Common.{ℕ, List, refl, ap, sym, ◌∙◌}
use Rattle.http_tunnel.specs.Routes.{route_of}
use Rattle.http_tunnel.proofs.Connecting.{counted_as}
use Rattle.http_tunnel.proofs.Responses.{busy_answered, dial_answered, served_as}
use Rattle.http_tunnel.proofs.answering.tunnel_request.Goals as goal

pub returns-clause-answered : goal.returns-clause-answered
returns-clause-answered g c = (c.serve-answered.result, c.of.ensures, served_as _ (Grants (g.D.Door.begun c.serve-answered.new.door) (g.D.Door.joined c.serve-answered.new.door)) _ _ _ _ _ _ _ _ _ (sym (c.find_route-route.ensures.route ∙ (ap (λ (m : List ℕ). route_of m c.as_bytes-2.result.now) (c.as_bytes.ensures.value ∙ c.as_str.ensures.value) ∙ ap (λ (t : List ℕ). route_of c.args.request.now.method t) c.as_bytes-2.ensures.value))) c.serve-answered.ensures.served)

pub returns-clause-faults : goal.returns-clause-faults
returns-clause-faults g c = counted_as _ _ _ refl (λ e. dial_answered _ _ c.of.ensures e) (λ e. busy_answered _ _ c.of.ensures e) c.serve-answered.ensures.faults
