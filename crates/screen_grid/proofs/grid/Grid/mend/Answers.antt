use Rattle.screen_grid.proofs.MendedPlaces.{kept_whole}
use Rattle.screen_grid.proofs.grid.Grid.mend.Goals as goal

pub returns-else-self : goal.returns-else-self
returns-else-self c = record { cells = kept_whole c.self.inside c.args.self.now c.self.view_is c.self.invariant c.if-self.false }
