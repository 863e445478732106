-- A net in memory, whose calls of `listen` and `accept` are numbered together (this project's own).
use Rattle.std.specs.Prelude.{Bool, reverse, if◌then◌else◌}
use Rattle.gate_outside.specs.Edge.{one_more}
use Rattle.gate_outside.specs.Memory.{Links, is_listed}
use Rattle.gate_outside.specs.declared.mem_net.MemNet.{MemNet}

-- the connections that are left, the calls that fail, and how many calls and faults there were
abbrev pub links_of : MemNet → Links
links_of s = record { left = reverse s.links.items; fail = s.fail.items; calls = s.calls; faults = s.faults }

-- the next call of `listen` fails
abbrev pub listen_fails : Links → Bool
listen_fails s = is_listed s.fail (one_more s.calls)

-- what is left after a call of `listen`
abbrev pub listens_after : Links → Links
listens_after s =
    if listen_fails s
    then record s { calls = one_more s.calls; faults = one_more s.faults }
    else record s { calls = one_more s.calls }
