use Rattle.std.proofs.Common.{◌-◌, ◌≤◌, length, take}
use Rattle.desk_core.specs.Host.{Showed}
use Rattle.desk_core.proofs.host.Host.show_run.Given as goal

-- the bytes before the place are shown
abbrev pub invariant-loop-at : goal.invariant-loop-at
invariant-loop-at l = record { within : l.at ≤ length l.bytes; shown : Showed l.fn.self l.self (take l.at l.bytes) l.fn.into.items l.into.items }

abbrev pub decreases-loop-at : goal.decreases-loop-at
decreases-loop-at l = length l.bytes - l.at
