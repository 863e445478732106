use Rattle.screen_grid.proofs.MendedPlaces.{both_mended, full_of, kept_whole}
use Rattle.screen_grid.proofs.grid.Grid.mend_beside.Goals as goal

pub returns-else-self : goal.returns-else-self
returns-else-self c = record { cells = kept_whole c.self.inside c.args.self.now c.self.view_is c.self.invariant c.if-self.false }

pub returns-then-self : goal.returns-then-self
returns-then-self c = record { cells = both_mended c.args.self.now c.mend_before.new.self c.mend_behind.new.self c.args.y c.args.from c.args.to (full_of c.self.inside c.args.self.now c.self.view_is c.self.invariant) c.requires.row c.requires.column c.requires.others c.mend_before.ensures.cells c.mend_behind.ensures }
