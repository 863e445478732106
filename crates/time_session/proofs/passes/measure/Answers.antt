use denote.Param.Send.{sendable}
use Rattle.time_session.proofs.Sends.{pass_send}
use Rattle.time_session.proofs.passes.measure.Goals as goal

pub measured-requires-send-H : goal.measured-requires-send-H
measured-requires-send-H g c κs = search (pass_send, sendable) depth 20
