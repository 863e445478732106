-- The bell of these rows may go to other threads.
use denote.Param.Send.{IsSend, sendable}
use Rattle.std.proofs.Crossing.{crosses}
use Rattle.gate_outside.specs.contracts.mem_bell.MemBell as bell

pub bell_send : IsSend bell.the_row
bell_send = search (sendable, crosses) depth 20
