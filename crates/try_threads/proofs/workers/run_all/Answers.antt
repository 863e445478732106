use denote.Param.Send.{sendable}
use Rattle.try_threads.proofs.Sends.{worker_send}
use Rattle.try_threads.proofs.workers.run_all.Goals as goal

pub for_each_mut-requires-send-T : goal.for_each_mut-requires-send-T
for_each_mut-requires-send-T g c κs within = search (worker_send, sendable) depth 20
