use Rattle.std.proofs.Common.{◌∙◌, ◌-◌, ℕ, refl, ap, arith}
use Rattle.gate_model.specs.terminal.Terminal.{first_stops}
use Rattle.vt_screen.proofs.Blanking.{erased_whole}
use Rattle.vt_screen.proofs.Sound.{opened}
use Rattle.vt_screen.proofs.state.State.reset.Goals as goal

pub invariant_of-self : goal.invariant_of-self
invariant_of-self c =
    let s = c.self.inside in
    let v = c.self.invariant in
    opened _ s.grid.cols s.grid.rows v.size v.columns v.rows (c.scroll_up.ensures.cells ∙ erased_whole s.rows s.grid v.rows v.full (omega (arith, v.size.some_rows)))
    (c.reset.ensures ∙ ap first_stops v.stops) refl refl refl (ap (λ (k : ℕ). k - 1) v.rows) refl
