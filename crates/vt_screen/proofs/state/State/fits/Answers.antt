use Rattle.std.proofs.Common.{subst}
use Rattle.vt_screen.specs.Soundness.{IsFit}
use Rattle.vt_screen.proofs.Holding.{fit_of}
use Rattle.vt_screen.proofs.state.State.fits.Goals as goal

pub returns : goal.returns
returns c = subst IsFit c.self.view_is (fit_of c.self.inside c.self.invariant)
