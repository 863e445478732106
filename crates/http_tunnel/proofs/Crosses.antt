-- A tunnel may go to other threads.
use denote.Param.Send.{IsSend, sendable}
use denote.Param.SendFields.{declared_send}
use Rattle.std.proofs.Crossing.{crosses}
use Rattle.id_table.proofs.Crosses.{option_send}
use Rattle.shared_desk.proofs.Crosses.{reader_send, writer_send}
use Rattle.shared_desk.specs.contracts.reader.ReaderPass as reader
use Rattle.http_tunnel.specs.contracts.tunnel.Tunnel as tunnel

-- its session's ID, its two passes, its role, the text that waits, and whether it goes
pub tunnel_send : IsSend tunnel.the_row
tunnel_send =
    declared_send tunnel.the_type (search (sendable, crosses) depth 20, (option_send reader.the_row reader_send, (writer_send, (search sendable depth 20, (search (sendable, crosses) depth 20, (search sendable, tt))))))
