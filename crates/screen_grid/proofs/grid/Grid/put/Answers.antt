use Rattle.std.proofs.Common.{subst, sym, arith}
use Rattle.std.proofs.lemmas.Grind.{common_steps}
use Rattle.std.proofs.lemmas.List.Elements.{All-set}
use Rattle.screen_grid.proofs.Holding.{AreWholeCells, IsWholeCell}
use Rattle.screen_grid.proofs.grid.Grid.put.Goals as goal

pub invariant_of-self : goal.invariant_of-self
invariant_of-self c = record {
  size = grind (arith, common_steps);
  wholes = λ e.
      let n = c.noted-self-inside.ensures e in
      subst AreWholeCells (sym c.put.ensures) (All-set IsWholeCell c.self.inside.held c.place-place.result c.args.cell n.1 (c.self.invariant.wholes n.0));
}
