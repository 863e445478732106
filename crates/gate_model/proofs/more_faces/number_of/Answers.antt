use Rattle.std.proofs.Common.{arith, refl, sym, ◌∙◌}
use Rattle.gate_model.specs.picture.Letters.{number_of, runs}
use Rattle.gate_model.proofs.RunFacts.{stops, goes_on, none_left}
use Rattle.gate_model.proofs.more_faces.number_of.Goals as goal
use Rattle.gate_model.proofs.more_faces.number_of.Goals.{else-first-code-via-then-first-code+else-code-last, else-first-code-via-else-first-code}

pub loop-i-init : goal.loop-i-init
loop-i-init c = refl

pub returns-then-code-last : goal.returns-then-code-last
unfolding number_of
returns-then-code-last c = sym (stops runs c.loop-i.i c.args.face c.loop-i-test.true c.if-first-code.true c.if-code-last.true) ∙ c.loop-i.invariant

pub loop-i-preserved : goal.loop-i-preserved
loop-i-preserved c = sym (goes_on runs c.loop-i.i c.args.face c.loop-i-test.true (λ low high.
    elim c.else-first-code.branch [ else-first-code-via-then-first-code+else-code-last w ↦ omega (arith, high, w.if-code-last.false) | else-first-code-via-else-first-code w ↦ omega (arith, low, w.if-first-code.false) ])) ∙ c.loop-i.invariant

pub returns : goal.returns
unfolding number_of
returns c = sym (none_left runs c.loop-i.i c.args.face (omega (arith, c.loop-i-test.false))) ∙ c.loop-i.invariant
