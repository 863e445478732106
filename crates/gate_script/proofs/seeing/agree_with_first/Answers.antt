use Rattle.std.proofs.Common.{◌<◌, ℕ, arith, below_more}
use Rattle.gate_script.proofs.SeeingLaws.{alike_at}
use Rattle.gate_script.proofs.seeing.agree_with_first.Goals as goal

pub loop-place-preserved : goal.loop-place-preserved
loop-place-preserved c = below_more _ _ c.loop-place.invariant
    (alike_at c.args.canvases.now 0 c.loop-place.place c.index-canvases-0.result c.index-canvases-place.result (omega (arith, c.loop-place-test.true)) (omega (arith, c.loop-place-test.true)) c.index-canvases-0.is c.index-canvases-place.is (c.are_alike.ensures.alike c.if-not-are_alike.false))

pub returns : goal.returns
returns c = λ k less. c.loop-place.invariant k (omega (arith, less, c.loop-place-test.false))
