use Rattle.std.proofs.Common.{arith, false, ap, length}
use Rattle.std.proofs.lemmas.List.FromFn.{fill_by_all}
use Rattle.gate_model.specs.terminal.Terminal.{is_first_stop}
use Rattle.tab_stops.proofs.stops.TabStops.reset.Goals as goal

pub returns : goal.returns
returns c =
    fill_by_all is_first_stop c.loop-column.held.items _ false c.loop-column.invariant.0 (λ k lt. c.loop-column.invariant.1 k (omega (arith, lt, ap length c.self.view_is)))
