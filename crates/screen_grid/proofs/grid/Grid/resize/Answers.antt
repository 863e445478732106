use Rattle.std.proofs.Common.{◌*◌, length, ap, sym, subst, refl, ◌∙◌}
use Rattle.std.proofs.lemmas.List.FromFn.{length-map-range_with_len}
use Rattle.gate_model.specs.terminal.Cells.{CellGrid}
use Rattle.gate_model.proofs.CellsKept.{resized_kept}
use Rattle.screen_grid.proofs.Holding.{AreWholeCells, IsWholeCell}
use Rattle.screen_grid.proofs.Refitting.{told}
use Rattle.screen_grid.proofs.grid.Grid.resize.Goals as goal

pub invariant_of-self : goal.invariant_of-self
invariant_of-self c = record {
  size = ap length c.in_ok-held.ensures ∙ length-map-range_with_len (told _ c.args.cols) 0 (c.args.rows * c.args.cols);
  wholes = λ e. subst AreWholeCells (sym c.in_ok-held.ensures)
      (resized_kept IsWholeCell refl c.args.cols c.args.rows c.args.self.now (subst (λ (g : CellGrid). AreWholeCells g.cells) c.self.view_is (c.self.invariant.wholes e)));
}
