use mir.Syntax.{Lifetime}
use base.Fml.{Lft}
use denote.Param.{param}
use denote.Param.Send.{IsSend, mut_send, sendable}
use Rattle.shared_desk.proofs.Crosses.{heap_shared, reader_send}
use Rattle.user_serve.proofs.Sends.{bytes_send}
use Rattle.user_serve.proofs.serving.both.Goals as goal

-- the sink and the bell are of types of the caller's: their references are given whole, since `search` doesn't find
-- them by the bounds
pub join_mut-requires-send-F : goal.join_mut-requires-send-F
join_mut-requires-send-F g c κs within =
    let k : IsSend (param 1 g.row.K) = c.type_bounds.send-K in
    let b : IsSend (param 2 g.row.B) = c.type_bounds.send-B in
    let sinks = λ (l : Lifetime) (t : Lft). mut_send l t (param 1 g.row.K) k in
    let bells = λ (l : Lifetime) (t : Lft). mut_send l t (param 2 g.row.B) b in
    search (heap_shared, reader_send, bytes_send, sinks, bells, sendable, c.type_bounds.sync-R) depth 40
