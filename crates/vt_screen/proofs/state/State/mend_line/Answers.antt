use Rattle.vt_screen.proofs.Holding.{mended_sound}
use Rattle.vt_screen.proofs.state.State.mend_line.Goals as goal

pub invariant_of-self : goal.invariant_of-self
invariant_of-self c = mended_sound c.self.inside _ c.mend_row.ensures.cells c.self.invariant
