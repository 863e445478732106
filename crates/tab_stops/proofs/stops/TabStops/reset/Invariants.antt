use Rattle.std.proofs.Common.{◌≡◌, ℕ, ◌<◌, get_or, length, false}
use Rattle.gate_model.specs.terminal.Terminal.{is_first_stop}
use Rattle.tab_stops.proofs.stops.TabStops.reset.Given as goal

-- the columns that were passed have their stops
abbrev pub invariant-loop-column : goal.invariant-loop-column
invariant-loop-column l = (length l.held.items ≡ length l.fn.self) × ((k : ℕ) → k < l.column → get_or l.held.items k false ≡ is_first_stop k)
