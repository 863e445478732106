use denote.Exit.{no}
use denote.Param.{param}
use denote.Param.Send.{arg_send, param_send}
use Rattle.service_door.proofs.Crosses.{pump_send, recorder_send, sending_send}
use Rattle.session_list.proofs.Crosses.{helper_send, sink_send, source_send}
use Rattle.session_list.specs.contracts.ends.TrafficSink as sink
use Rattle.session_list.specs.contracts.ends.TrafficSource as source
use Rattle.session_list.specs.contracts.helper.TrafficHelper as helper
use Rattle.gate_service.proofs.jobs.ConnectionJob.run.Goals as goal

-- the jobs of a session may go to other threads
pub serve_at-requires-send-D-Pump : goal.serve_at-requires-send-D-Pump
serve_at-requires-send-D-Pump g c κs within =
    let input = source_send (param 5 g.row.H-Input) c.type_bounds.send-H-Input in
    let own = helper_send (param 2 g.row.H) c.type_bounds.send-H in
    param_send 7 _ (arg_send _ no _ (pump_send (source.the_row (param 5 g.row.H-Input)) (helper.the_row (param 2 g.row.H)) (param 3 g.row.B) input own c.type_bounds.send-B))

pub serve_at-requires-send-D-Sending : goal.serve_at-requires-send-D-Sending
serve_at-requires-send-D-Sending g c κs within =
    let output = sink_send (param 6 g.row.H-Output) c.type_bounds.send-H-Output in
    param_send 8 _ (arg_send _ no _ (sending_send (sink.the_row (param 6 g.row.H-Output)) (param 3 g.row.B) output c.type_bounds.send-B))

pub serve_at-requires-send-D-Recording : goal.serve_at-requires-send-D-Recording
serve_at-requires-send-D-Recording g c κs within =
    let output = sink_send (param 6 g.row.H-Output) c.type_bounds.send-H-Output in
    param_send 9 _ (arg_send _ no _ (recorder_send (sink.the_row (param 6 g.row.H-Output)) (param 3 g.row.B) output c.type_bounds.send-B))
