use denote.Param.Send.{sendable}
use Rattle.time_session.proofs.Sends.{bare_send}
use Rattle.time_session.proofs.bare.measure.Goals as goal

pub measured-requires-send-H : goal.measured-requires-send-H
measured-requires-send-H g c κs = search (bare_send, sendable) depth 20
