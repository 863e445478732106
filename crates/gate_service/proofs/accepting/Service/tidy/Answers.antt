use denote.Exit.{no}
use denote.Param.{copied, param}
use denote.Param.Send.{arg_send, param_send}
use Rattle.gate_service.proofs.Crosses.{captures_send, tidy_send}
use Rattle.gate_service.specs.contracts.tidying.TidyJob as tidy
use Rattle.gate_service.proofs.accepting.Service.tidy.Goals as goal

-- the job that gives up what nobody uses may go to another thread
pub start-requires-send-J : goal.start-requires-send-J
start-requires-send-J g c κs within =
    let job = tidy_send (param 0 g.row.H) (param 1 g.row.B) (copied 2 g.row.L) c.type_bounds.send-H c.type_bounds.send-B c.type_bounds.send-L in
    param_send 2 _ (arg_send _ no _ (captures_send _ (tidy.the_row (param 0 g.row.H) (param 1 g.row.B) (copied 2 g.row.L)) (copied 5 g.row.R) job c.type_bounds.send-R))
