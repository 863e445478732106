use Rattle.std.proofs.Common.{subst, sym, arith}
use Rattle.std.proofs.lemmas.Grind.{common_steps}
use Rattle.screen_grid.proofs.Holding.{AreWholeCells, drawn_whole}
use Rattle.screen_grid.proofs.grid.Grid.put_run.Goals as goal

pub invariant_of-self : goal.invariant_of-self
invariant_of-self c = record {
  size = grind (arith, common_steps);
  wholes = λ e.
      let n = c.noted-self-inside.ensures e in
      subst AreWholeCells (sym c.put_run.ensures) (drawn_whole _ _ c.args.pen c.args.text.now c.self.inside.held n.1 (c.self.invariant.wholes n.0));
}
