use Rattle.std.proofs.Common.{arith}
use Rattle.http_tunnel.proofs.Bodies.{body_read, empty, far_begin, far_next, far_stop, not_empty, too_many}
use Rattle.http_tunnel.proofs.acts.read_body.Goals as goal

pub reading-init : goal.reading-init
reading-init c = far_begin _ _ c.new.ensures.items

pub behind-rest-requires : goal.behind-rest-requires
behind-rest-requires c = c.in-Ok.ensures.1.within

pub reading-preserved : goal.reading-preserved
reading-preserved c = far_next _ _ _ _ c.reading.invariant c.take_next.new.wanted c.in-Ok.count _ (not_empty _ _ c.if-is_empty.false c.is_empty.ensures) c.in-Ok.ensures c.behind-rest.ensures

pub returns-then-is_empty : goal.returns-then-is_empty
returns-then-is_empty c = body_read _ _ _ _ c.reading.invariant (omega (arith, c.reading-test.true)) (empty _ _ c.if-is_empty.true c.is_empty.ensures)

pub returns-in-Err : goal.returns-in-Err
returns-in-Err c = far_stop _ _ _ _ c.reading.invariant c.take_next.new.wanted c.in-Err.fault (omega (arith, c.reading-test.true)) (not_empty _ _ c.if-is_empty.false c.is_empty.ensures) c.in-Err.ensures

pub returns : goal.returns
returns c = too_many _ _ _ _ c.reading.invariant (omega arith)
