use Rattle.screen_grid.proofs.MendedPlaces.{kept_whole, row_mended}
use Rattle.screen_grid.proofs.grid.Grid.mend_row.Goals as goal

pub returns-else-self : goal.returns-else-self
returns-else-self c = record { cells = kept_whole c.self.inside c.args.self.now c.self.view_is c.self.invariant c.if-self.false }

pub returns-then-self : goal.returns-then-self
returns-then-self c = record { cells = row_mended c.args.self.now c.mend_places.new.self c.args.y c.requires.others c.mend_places.ensures }
