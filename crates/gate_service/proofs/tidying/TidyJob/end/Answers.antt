use denote.Exit.{no}
use denote.Param.{param}
use denote.Param.Send.{arg_send, param_send}
use Rattle.service_door.proofs.Crosses.{pump_send, recorder_send, sending_send}
use Rattle.gate_service.proofs.tidying.TidyJob.end.Goals as goal

-- the jobs of a session may go to other threads
pub leave_at-requires-send-D-Pump : goal.leave_at-requires-send-D-Pump
leave_at-requires-send-D-Pump g c κs within =
    param_send 4 _ (arg_send _ no _ (pump_send (param 3 g.row.H-Input) (param 0 g.row.H) (param 1 g.row.B) c.type_bounds.send-H-Input c.type_bounds.send-H c.type_bounds.send-B))

pub leave_at-requires-send-D-Sending : goal.leave_at-requires-send-D-Sending
leave_at-requires-send-D-Sending g c κs within =
    param_send 5 _ (arg_send _ no _ (sending_send (param 4 g.row.H-Output) (param 1 g.row.B) c.type_bounds.send-H-Output c.type_bounds.send-B))

pub leave_at-requires-send-D-Recording : goal.leave_at-requires-send-D-Recording
leave_at-requires-send-D-Recording g c κs within =
    param_send 6 _ (arg_send _ no _ (recorder_send (param 4 g.row.H-Output) (param 1 g.row.B) c.type_bounds.send-H-Output c.type_bounds.send-B))
