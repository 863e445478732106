use Rattle.std.proofs.Common.{arith, sym, ◌∙◌, ap, ◌-◌, ◌≡◌, ℕ}
use Rattle.gate_model.specs.terminal.TabStops.{stops_below}
use Rattle.tab_stops.proofs.StopMoves.{below_more, below_none, below_stays}
use Rattle.tab_stops.proofs.stops.TabStops.below.Goals as goal

pub loop-left-preserved : goal.loop-left-preserved
loop-left-preserved c =
    let more = below_more c.args.self.now c.loop-left.left c.loop-left.column (omega arith) in
    (omega (arith, c.next_below-column.ensures.on_line), ap (stops_below c.args.self.now (c.loop-left.left - 1)) c.next_below-column.ensures.exact ∙ more ∙ c.loop-left.invariant.1)

pub returns-else-column-gt0-clause-exact : goal.returns-else-column-gt0-clause-exact
returns-else-column-gt0-clause-exact c = sym (below_stays c.args.self.now c.loop-left.left c.loop-left.column (omega arith)) ∙ c.loop-left.invariant.1

pub returns-after-loop-left-clause-exact : goal.returns-after-loop-left-clause-exact
returns-after-loop-left-clause-exact c =
    let e : c.loop-left.left ≡ 0 = omega arith in
    sym (below_none c.args.self.now c.loop-left.column) ∙ ap (λ (k : ℕ). stops_below c.args.self.now k c.loop-left.column) (sym e) ∙ c.loop-left.invariant.1
