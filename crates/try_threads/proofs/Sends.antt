-- What the threads of a mixed load have may go to other threads.
use denote.Param.Send.{IsSend, sendable}
use denote.Param.SendFields.{declared_send, variants_send}
use Rattle.std.proofs.Crossing.{crosses}
use Rattle.shared_desk.proofs.Crosses.{host_send, link_send, reader_send, sender_send, writer_send}
use Rattle.try_threads.specs.contracts.workers.Hand as hand
use Rattle.try_threads.specs.contracts.workers.Worker as worker

hand_send : IsSend hand.the_row
hand_send = search (host_send, link_send, reader_send, sender_send, writer_send, sendable, crosses, variants_send) depth 30

pub worker_send : IsSend worker.the_row
worker_send = declared_send worker.the_type (hand_send, (search sendable, tt))
