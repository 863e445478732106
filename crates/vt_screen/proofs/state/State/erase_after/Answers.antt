use Rattle.std.proofs.Common.{◌+◌, ◌-◌, arith, ap, ◌∙◌}
use Rattle.gate_model.specs.terminal.Cells.{CellGrid, scrolled_up}
use Rattle.vt_screen.specs.Soundness.{state_of}
use Rattle.vt_screen.proofs.Blanking.{erased_after}
use Rattle.vt_screen.proofs.state.State.erase_after.Goals as goal

pub returns-then-below-self : goal.returns-then-below-self
returns-then-below-self c =
    let s = c.self.inside in
    let v = c.self.invariant in
    let grid : CellGrid = c.scroll_up.new.self in
    rw (← c.self.view_is) (ap (λ (g : CellGrid). record (state_of s) { grid = g })
    (c.scroll_up.ensures.cells ∙ ap (scrolled_up (s.y + 1) (s.rows - 1) s.rows) c.erase.ensures.cells
    ∙ erased_after s.columns s.rows s.x s.y s.grid v.columns v.rows v.full v.cursor.column (omega (arith, v.rows))))
