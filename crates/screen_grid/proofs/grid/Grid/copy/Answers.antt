use Rattle.std.proofs.Common.{length, ap, sym, subst, ◌∙◌}
use Rattle.screen_grid.proofs.Holding.{AreWholeCells}
use Rattle.screen_grid.proofs.grid.Grid.copy.Goals as goal

pub invariant_of-result : goal.invariant_of-result
invariant_of-result c = record {
  size = ap length c.in_ok-held.ensures ∙ c.self.invariant.size;
  wholes = λ e. subst AreWholeCells (sym c.in_ok-held.ensures) (c.self.invariant.wholes e);
}
