use Rattle.std.proofs.Common.{◌*◌, length, ap, sym, subst, ◌∙◌}
use Rattle.std.proofs.lemmas.List.{length-replicate}
use Rattle.gate_model.specs.terminal.Cells.{blank}
use Rattle.screen_grid.proofs.Holding.{AreWholeCells, blanks_whole}
use Rattle.screen_grid.proofs.grid.Grid.new.Goals as goal

pub invariant_of-result : goal.invariant_of-result
invariant_of-result c = record {
  size = ap length c.in_ok-held.ensures ∙ length-replicate (c.args.rows * c.args.cols) blank;
  wholes = λ e. subst AreWholeCells (sym c.in_ok-held.ensures) (blanks_whole (c.args.rows * c.args.cols));
}
