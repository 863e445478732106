-- What a viewer is given first may go to another thread.
use denote.Param.Send.{IsSend, sendable}
use Rattle.std.proofs.Crossing.{crosses}
use Rattle.gate_model.specs.contracts.bytes.Bytes as bytes

pub bytes_send : IsSend bytes.the_row
bytes_send = search (sendable, crosses) depth 30
