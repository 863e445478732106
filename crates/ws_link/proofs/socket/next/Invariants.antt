use Rattle.std.proofs.Common.{◌≡◌}
use Rattle.ws_link.proofs.socket.next.Given as goal

abbrev pub invariant-loop : goal.invariant-loop
invariant-loop g l = l.into.items ≡ l.fn.into.items
