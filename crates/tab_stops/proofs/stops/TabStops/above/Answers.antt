use Rattle.std.proofs.Common.{arith, sym, ◌∙◌, ap, ◌-◌, ◌≡◌, ℕ, length}
use Rattle.gate_model.specs.terminal.TabStops.{stops_above}
use Rattle.tab_stops.proofs.StopMoves.{above_more, above_none, above_stays}
use Rattle.tab_stops.proofs.stops.TabStops.above.Goals as goal
use Rattle.tab_stops.proofs.stops.TabStops.above.Goals.{then-loop-left-test+else-column-last, else-loop-left-test}

pub loop-left-preserved : goal.loop-left-preserved
loop-left-preserved c =
    let more = above_more c.args.self.now c.loop-left.left c.loop-left.column (omega arith) in
    (c.next_above-column.ensures.on_line, ap (stops_above c.args.self.now (c.loop-left.left - 1)) c.next_above-column.ensures.exact ∙ more ∙ c.loop-left.invariant.1)

pub returns-clause-exact : goal.returns-clause-exact
returns-clause-exact c =
    let stops = c.args.self.now in
    elim c.loop-left-test.branch [
      | then-loop-left-test+else-column-last w ↦ sym (above_stays stops c.loop-left.left c.loop-left.column (omega (arith, ap length c.self.view_is))) ∙ c.loop-left.invariant.1
      | else-loop-left-test w ↦
          let none : c.loop-left.left ≡ 0 = omega arith in
          sym (above_none stops c.loop-left.column) ∙ ap (λ (k : ℕ). stops_above stops k c.loop-left.column) (sym none) ∙ c.loop-left.invariant.1
    ]
