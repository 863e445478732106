-- What the threads that read one tunnel have may go to other threads.
use denote.Param.Send.{IsSend, sendable}
use denote.Param.SendFields.{variants_send}
use Rattle.std.proofs.Crossing.{crosses}
use Rattle.id_table.proofs.Crosses.{locked_send}
use Rattle.id_table.specs.contracts.locked_shelf.LockedShelf as locked
use Rattle.http_tunnel.proofs.Crosses.{tunnel_send}
use Rattle.http_tunnel.specs.contracts.tunnel.Tunnel as tunnel
use Rattle.try_doors.proofs.Crosses.{session_send}
use Rattle.try_http.specs.contracts.twice.Part as part

tunnels_send : IsSend (locked.the_row tunnel.the_row)
tunnels_send = locked_send tunnel.the_row tunnel_send

pub part_send : IsSend part.the_row
part_send = search (session_send, tunnels_send, sendable, crosses, variants_send) depth 30
