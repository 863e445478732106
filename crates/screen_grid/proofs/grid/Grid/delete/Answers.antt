use Rattle.std.proofs.Common.{subst, sym, arith}
use Rattle.std.proofs.lemmas.Grind.{common_steps}
use Rattle.screen_grid.proofs.Holding.{AreWholeCells, left_whole}
use Rattle.screen_grid.proofs.grid.Grid.delete.Goals as goal

pub invariant_of-self : goal.invariant_of-self
invariant_of-self c = record {
  size = grind (arith, common_steps);
  wholes = λ e. subst AreWholeCells (sym c.move_left.ensures) (left_whole c.place-start.result c.place-end.result c.args.n c.self.inside.held (c.self.invariant.wholes e));
}
