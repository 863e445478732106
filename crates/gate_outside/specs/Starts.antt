-- How a host is dialed and a job is started, and why not (this project's own).
use Rattle.std.specs.Prelude.{◌≡◌, Bool, true, false, Result, Err}
use Rattle.gate_outside.specs.declared.dialer.DialFault.{DialFault}
use Rattle.gate_outside.specs.declared.dialer.DialFault.TheVariants as fault
use Rattle.gate_outside.specs.declared.spawner.Way.{Way}
use Rattle.gate_outside.specs.declared.spawner.Way.TheVariants as way

-- the dial failed, and not for want of memory
abbrev pub IsDialFailed : {A : Type 0} → Result A DialFault → Type 0
IsDialFailed r = r ≡ Err fault.Failed

-- the job is refused
abbrev pub is_refused : Way → Bool
is_refused way.Refused = true
is_refused way.Thread = false
is_refused way.Here = false
