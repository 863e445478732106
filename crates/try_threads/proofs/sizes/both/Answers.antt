use denote.Param.Send.{sendable}
use Rattle.shared_desk.proofs.Crosses.{heap_shared, writer_send}
use Rattle.try_threads.proofs.sizes.both.Goals as goal

pub join_mut-requires-send-F : goal.join_mut-requires-send-F
join_mut-requires-send-F g c κs within = search (heap_shared, writer_send, sendable, c.type_bounds.sync-R) depth 20
