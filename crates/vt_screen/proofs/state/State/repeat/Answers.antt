use Rattle.std.proofs.Common.{◌≡◌, ℕ, ◌+◌, ◌-◌, arith, sym, ap, ◌∙◌}
use Rattle.std.specs.Prelude.{Option, min}
use Rattle.gate_model.specs.terminal.Printing.{printed, printed_often, repeated, repeated_as}
use Rattle.gate_model.specs.terminal.Terminal.{Terminal}
use Rattle.vt_screen.specs.Soundness.{state_of}
use Rattle.vt_screen.proofs.PrintedAgain.{again, no_more}
use Rattle.vt_screen.proofs.state.State.repeat.Goals as goal

pub loop-preserved : goal.loop-preserved
loop-preserved c =
    let ch = c.in-Some.ch in
    let left = c.min-count.result - c.loop.counter in
    let one_less : c.min-count.result - (c.loop.counter + 1) ≡ left - 1 = omega arith in
    ap (λ (t : Terminal). printed_often (c.min-count.result - (c.loop.counter + 1)) ch t) c.print.ensures.state
    ∙ ap (λ (k : ℕ). printed_often k ch (printed ch c.loop.self)) one_less
    ∙ again left ch c.loop.self (omega arith) ∙ c.loop.invariant

pub returns : goal.returns
returns c =
    let ch = c.in-Some.ch in
    let s = c.self.inside in
    let count = c.min-count.result in
    sym (no_more (count - c.loop.counter) ch c.loop.self (omega arith)) ∙ c.loop.invariant
    ∙ ap (printed_often count ch) (sym c.self.view_is)
    ∙ ap (λ (k : ℕ). printed_often k ch (state_of s)) (c.min-count.ensures ∙ ap (min c.args.n) c.self.invariant.columns)
    ∙ ap (λ (o : Option ℕ). repeated_as c.args.n o (state_of s)) (sym c.in-Some.is)
    ∙ ap (repeated c.args.n) c.self.view_is
