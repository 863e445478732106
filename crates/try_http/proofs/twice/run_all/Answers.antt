use denote.Param.Send.{sendable}
use Rattle.try_http.proofs.Sends.{part_send}
use Rattle.try_http.proofs.twice.run_all.Goals as goal

pub for_each_mut-requires-send-T : goal.for_each_mut-requires-send-T
for_each_mut-requires-send-T g c κs within = search (part_send, sendable) depth 20
