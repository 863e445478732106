use Rattle.std.proofs.Common.{subst, sym, arith}
use Rattle.std.proofs.lemmas.Grind.{common_steps}
use Rattle.screen_grid.proofs.Holding.{AreWholeCells, erased_whole}
use Rattle.screen_grid.proofs.grid.Grid.erase.Goals as goal

pub invariant_of-self : goal.invariant_of-self
invariant_of-self c = record {
  size = grind (arith, common_steps);
  wholes = λ e. subst AreWholeCells (sym c.erase.ensures) (erased_whole _ _ _ _ (c.self.invariant.wholes e));
}
