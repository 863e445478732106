use denote.Exit.{no}
use denote.Param.{copied, param}
use denote.Param.Send.{arg_send, param_send}
use Rattle.gate_service.proofs.Crosses.{captures_send, worker_send}
use Rattle.gate_service.specs.contracts.worker.Worker as worker
use Rattle.gate_service.proofs.accepting.Service.hand_on.Goals as goal

-- what a thread does may go to another thread
pub start_by-requires-send-J : goal.start_by-requires-send-J
start_by-requires-send-J g c κs within =
    let work = worker_send (param 3 g.row.H-Input) (param 4 g.row.H-Output) (param 0 g.row.H) (param 1 g.row.B) (copied 2 g.row.L) c.type_bounds.send-H-Input c.type_bounds.send-H-Output c.type_bounds.send-H c.type_bounds.send-B c.type_bounds.send-L in
    param_send 1 _ (arg_send _ no _ (captures_send _ (worker.the_row (param 3 g.row.H-Input) (param 4 g.row.H-Output) (param 0 g.row.H) (param 1 g.row.B) (copied 2 g.row.L)) (copied 5 g.row.R) work c.type_bounds.send-R))
