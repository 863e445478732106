use Rattle.std.proofs.Common.{◌≡◌, ◌≤◌, take}
use Rattle.http_tunnel.specs.Routes.{digits_after}
use Rattle.http_tunnel.proofs.route.digits_after.Given as goal

abbrev pub invariant-loop-byte : goal.invariant-loop-byte
invariant-loop-byte l = (l.count ≡ digits_after (take l.byte-index l.text)) × (l.count ≤ l.byte-index)
