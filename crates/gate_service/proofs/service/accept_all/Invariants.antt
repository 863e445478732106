use Rattle.std.proofs.Common.{◌≤◌}
use Rattle.gate_service.proofs.service.accept_all.Given as goal

-- the net's count didn't fall
abbrev pub invariant-loop : goal.invariant-loop
invariant-loop g l = g.N.Net.net_faults l.fn.net ≤ g.N.Net.net_faults l.net
