use denote.Exit.{no}
use denote.Param.{param}
use denote.Param.Send.{arg_send, param_send}
use Rattle.gate_outside.specs.contracts.mem_bell.MemBell as bell
use Rattle.service_door.proofs.Crosses.{pump_send, recorder_send, sending_send}
use Rattle.try_door.proofs.Sends.{bell_send}
use Rattle.try_door.proofs.service.at_door.Goals as goal

-- the jobs of a session may go to other threads
pub greet_all-requires-send-D-Pump : goal.greet_all-requires-send-D-Pump
greet_all-requires-send-D-Pump g c κs within =
    param_send 3 _ (arg_send _ no _ (pump_send (param 3 g.row.H-Input) (param 2 g.row.H) bell.the_row c.type_bounds.send-H-Input c.type_bounds.send-H bell_send))

pub greet_all-requires-send-D-Sending : goal.greet_all-requires-send-D-Sending
greet_all-requires-send-D-Sending g c κs within =
    param_send 4 _ (arg_send _ no _ (sending_send (param 4 g.row.H-Output) bell.the_row c.type_bounds.send-H-Output bell_send))

pub greet_all-requires-send-D-Recording : goal.greet_all-requires-send-D-Recording
greet_all-requires-send-D-Recording g c κs within =
    param_send 5 _ (arg_send _ no _ (recorder_send (param 4 g.row.H-Output) bell.the_row c.type_bounds.send-H-Output bell_send))
