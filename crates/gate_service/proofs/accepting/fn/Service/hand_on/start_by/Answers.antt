use denote.Exit.{yes}
use denote.Param.Send.{arg_send, param_send}
use Rattle.gate_service.proofs.accepting.fn.Service.hand_on.start_by.Goals as goal

-- what the job has may go to another thread, as the closure asks
pub run-requires-send-S : goal.run-requires-send-S
run-requires-send-S g c κs within = param_send 0 _ (arg_send _ yes _ c.requires.1.1.1.1.1.1.1.1.1.1.1.1.3)

pub run-requires-send-K : goal.run-requires-send-K
run-requires-send-K g c κs within = param_send 1 _ (arg_send _ _ _ c.requires.1.1.1.1.1.1.1.1.1.1.1.1.4)

pub run-requires-send-H : goal.run-requires-send-H
run-requires-send-H g c κs within = param_send 2 _ (arg_send _ yes _ c.requires.1.1.1.1.1.1.1.1.1.1.1.1.0)

pub run-requires-send-B : goal.run-requires-send-B
run-requires-send-B g c κs within = param_send 3 _ (arg_send _ _ _ c.requires.1.1.1.1.1.1.1.1.1.1.1.1.1)

pub run-requires-send-H-Input : goal.run-requires-send-H-Input
run-requires-send-H-Input g c κs within = param_send 5 _ (arg_send _ yes _ c.requires.1.1.1.1.1.1.1.1.1.1.1.1.3)

pub run-requires-send-H-Output : goal.run-requires-send-H-Output
run-requires-send-H-Output g c κs within = param_send 6 _ (arg_send _ _ _ c.requires.1.1.1.1.1.1.1.1.1.1.1.1.4)
