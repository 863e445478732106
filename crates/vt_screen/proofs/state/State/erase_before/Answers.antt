use Rattle.std.proofs.Common.{◌≡◌, ◌+◌, arith, ap, ◌∙◌}
use Rattle.gate_model.specs.terminal.Cells.{CellGrid, erased}
use Rattle.vt_screen.specs.Soundness.{state_of}
use Rattle.vt_screen.specs.declared.state.State.TheInside.{Inside}
use Rattle.vt_screen.proofs.Blanking.{erased_before, erased_first}
use Rattle.vt_screen.proofs.state.State.erase_before.Goals as goal
use Rattle.vt_screen.proofs.state.State.erase_before.Goals.{then-self-gt0, else-self-gt0}

-- the state with other cells, from fields that differ in them alone
with_cells : (s joined : Inside) (h new : CellGrid) → joined ≡ record s { grid = h } → new ≡ erased joined.y 0 (joined.x + 1) joined.grid → state_of (record joined { grid = new }) ≡ record (state_of s) { grid = erased s.y 0 (s.x + 1) h }
with_cells s joined h new e f =
    let joined_is : state_of (record joined { grid = erased joined.y 0 (joined.x + 1) joined.grid }) ≡ record (state_of s) { grid = erased s.y 0 (s.x + 1) h } = ap (λ (j : Inside). state_of (record j { grid = erased j.y 0 (j.x + 1) j.grid })) e in
    ap (λ (g : CellGrid). state_of (record joined { grid = g })) f ∙ joined_is

pub returns : goal.returns
returns c =
    let s = c.self.inside in
    let v = c.self.invariant in
    rw (← c.self.view_is) (elim c.if-self-gt0.branch [
      | then-self-gt0 w ↦
          with_cells s c.if-self-gt0.self-inside w.scroll_up.new.self c.erase.new.self w.self-inside-is c.erase.ensures.cells
          ∙ ap (λ (g : CellGrid). record (state_of s) { grid = g }) (ap (erased s.y 0 (s.x + 1)) w.scroll_up.ensures.cells ∙ erased_before s.rows s.x s.y s.grid v.rows v.full v.cursor.column v.cursor.row (omega arith))
      | else-self-gt0 w ↦
          with_cells s c.if-self-gt0.self-inside s.grid c.erase.new.self w.self-inside-is c.erase.ensures.cells
          ∙ ap (λ (g : CellGrid). record (state_of s) { grid = g }) (erased_first s.x s.y s.grid (omega arith))
    ])
